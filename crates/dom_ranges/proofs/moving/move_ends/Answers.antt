use Rattle.dom_ranges.proofs.Cited.{◌≡◌, ℕ, List, sym, subst, ◌∙◌, arith, IsListed, IsSortedBeside, IsSortedBut, point_of, RangeEnd}
use Rattle.dom_ranges.proofs.Leaving.{each-listed, moves-none}
use Rattle.dom_ranges.proofs.Listing.{IsListed-permuted}
use Rattle.dom_ranges.proofs.Parts.{chosen-true}
use Rattle.dom_ranges.proofs.Moved.{holds-listed, stays-outside, ranges-ruled, ruled-both, IsSortedByPoint-kept, IsSortedBeside-both, IsSortedBut-both}
use Rattle.dom_ranges.proofs.moving.move_ends.Goals.{then-low-high, else-low-high}
use Rattle.dom_ranges.proofs.moving.move_ends.Goals as goal

pub move_part-here-requires-clause-can_move : goal.move_part-here-requires-clause-can_move
move_part-here-requires-clause-can_move g c =
    λ k d l e. holds-listed (g.C.Change.can_move c.args.change.now) c.requires.listed c.requires.can_move k d l

pub move_part-there-requires-clause-can_move : goal.move_part-there-requires-clause-can_move
move_part-there-requires-clause-can_move g c =
    λ k d l e. subst (λ (x : RangeEnd). g.C.Change.can_move c.args.change.now (point_of x))
    (sym (stays-outside c.args.one c.move_part-here.ensures.moved k d (chosen-true c.args.two c.args.one k e).2))
    (holds-listed (g.C.Change.can_move c.args.change.now) c.requires.listed c.requires.can_move k d
    (omega (arith, l, c.move_part-here.ensures.moved.same_length)))

pub returns-then-is_empty-2-clause-moved : goal.returns-then-is_empty-2-clause-moved
returns-then-is_empty-2-clause-moved g c =
    let rule = g.C.Change.rule c.args.change.now in
    moves-none rule c.args.live.now
    (each-listed (λ b. rule b ≡ b) c.args.live.now c.args.ends.now c.requires.listed
    (λ k d l. c.requires.all k d l (c.is_empty.ensures c.if-is_empty.true k) (c.is_empty-then-is_empty.ensures c.if-is_empty-2.true k)))

pub returns-then-keeps_order-clause-moved : goal.returns-then-keeps_order-clause-moved
returns-then-keeps_order-clause-moved g c =
    ranges-ruled c.requires.listed c.move_part-there.ensures.listed
    (ruled-both _ _ _ _ _ _ _ c.move_part-here.ensures.moved c.move_part-there.ensures.moved c.requires.all)

pub returns-then-keeps_order-clause-sorted : goal.returns-then-keeps_order-clause-sorted
returns-then-keeps_order-clause-sorted g c =
    IsSortedByPoint-kept _ _ _ _ _ _ _ c.move_part-here.ensures.moved c.move_part-there.ensures.moved c.requires.all
    (c.keeps_order.ensures.all c.if-keeps_order.true) c.requires.sorted

pub settle-requires-clause-sorted : goal.settle-requires-clause-sorted
settle-requires-clause-sorted g c =
    subst (IsSortedBeside c.move_part-there.new.ends c.min-low.result c.max-high.result) (sym c.target.ensures)
    (IsSortedBeside-both _ _ _ _ _ _ _ c.move_part-here.ensures.moved c.move_part-there.ensures.moved c.requires.all c.keeps_order.ensures.others
    c.requires.sorted c.move_part-here.result c.move_part-there.result c.move_part-here.ensures.nodes c.move_part-there.ensures.nodes
    c.min-low.result c.max-high.result c.min-low.ensures c.max-high.ensures)

pub put_in_order-requires : goal.put_in_order-requires
put_in_order-requires g c = elim c.if-low-high.branch [
  | then-low-high w ↦
      subst (λ (es : List RangeEnd). IsSortedBut c.target-2.result es) (sym w.ends-is)
      (subst (λ (n : ℕ). IsSortedBut n w.settle.new.ends) (w.target.ensures ∙ sym c.target-2.ensures) w.settle.ensures.sorted)
  | else-low-high w ↦
      subst (λ (es : List RangeEnd). IsSortedBut c.target-2.result es) (sym w.ends-is)
      (subst (λ (n : ℕ). IsSortedBut n c.move_part-there.new.ends) (sym c.target-2.ensures)
      (IsSortedBut-both _ _ _ _ _ _ _ c.move_part-here.ensures.moved c.move_part-there.ensures.moved c.requires.all c.keeps_order.ensures.others
      c.requires.sorted c.move_part-here.result c.move_part-there.result c.move_part-here.ensures.nodes c.move_part-there.ensures.nodes
      c.min-low.result c.max-high.result c.min-low.ensures c.max-high.ensures w.if-low-high.false))
]

pub returns-clause-moved : goal.returns-clause-moved
returns-clause-moved g c =
    ranges-ruled c.requires.listed c.move_part-there.ensures.listed
    (ruled-both _ _ _ _ _ _ _ c.move_part-here.ensures.moved c.move_part-there.ensures.moved c.requires.all)

pub returns-clause-listed : goal.returns-clause-listed
returns-clause-listed g c =
    IsListed-permuted _ c.if-low-high.ends _ (elim c.if-low-high.branch [
      | then-low-high w ↦ subst (IsListed c.move_part-there.new.live) (sym w.ends-is)
          (IsListed-permuted _ _ _ c.move_part-there.ensures.listed w.settle.ensures.permutation)
      | else-low-high w ↦ subst (IsListed c.move_part-there.new.live) (sym w.ends-is) c.move_part-there.ensures.listed
    ]) c.put_in_order.ensures.permutation
