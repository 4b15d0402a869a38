use Rattle.dom_ranges.proofs.Cited.{Option, Some, ap, sym, ◌∙◌, subst, option_map, at, map_ends, after_insertion, CanFollow, Fits, Insertion, range_from}
use Rattle.dom_ranges.proofs.Cited.{range_in, RangeLists, ranges_of, shown_after}
use Rattle.dom_ranges.proofs.EndsAfterCalls.{stand-at}
use Rattle.dom_ranges.proofs.Moved.{both_same}
use Rattle.dom_ranges.proofs.Pending.{none-alike, range_in-by}
use Rattle.dom_ranges.proofs.table.RangeTable.points.Goals as goal

pub returns-in_err-points : goal.returns-in_err-points
returns-in_err-points c =
    ap (option_map range_from) c.from_residual.ensures
    ∙ sym (ap (λ (t : RangeLists). range_in (ranges_of t c.args.owner) c.args.number) (sym c.self.view_is)
    ∙ (none-alike c.self.inside.pending c.self.inside.stored c.args.owner c.args.number).1 (sym c.in_err-points.ensures))

pub moved-requires : goal.moved-requires
moved-requires c =
    (stand-at (λ b. Fits (after_insertion c.in-Some.insertion b)) (ranges_of c.self.inside.stored c.args.owner) c.args.number (range_from c.in_ok-points.points)
    ((subst (λ (p : Option Insertion). CanFollow p c.self.inside.stored) c.in-Some.is c.self.invariant) c.args.owner) (sym c.in_ok-points.ensures)).0

pub moved-requires-2 : goal.moved-requires-2
moved-requires-2 c =
    (stand-at (λ b. Fits (after_insertion c.in-Some.insertion b)) (ranges_of c.self.inside.stored c.args.owner) c.args.number (range_from c.in_ok-points.points)
    ((subst (λ (p : Option Insertion). CanFollow p c.self.inside.stored) c.in-Some.is c.self.invariant) c.args.owner) (sym c.in_ok-points.ensures)).1

pub returns : goal.returns
returns c =
    let f = after_insertion c.in-Some.insertion in
    let start = c.in_ok-points.points.start in
    let end = c.in_ok-points.points.end in
    ap Some (both_same (at c.moved.result.0 c.moved.result.1) (at c.moved-2.result.0 c.moved-2.result.1) (f (at start.0 start.1)) (f (at end.0 end.1))
    c.moved.ensures.moved c.moved-2.ensures.moved)
    ∙ (ap (option_map (map_ends f)) c.in_ok-points.ensures
    ∙ sym (range_in-by f c.self.inside.stored c.args.self.now
    (ap (λ (p : Option Insertion). shown_after p c.self.inside.stored) (sym c.in-Some.is) ∙ c.self.view_is) c.args.owner c.args.number))
