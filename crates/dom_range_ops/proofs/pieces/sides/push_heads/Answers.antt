use Rattle.dom_range_ops.proofs.Cited.{◌≡◌, suc, ◌-◌, ◌<◌, length, map, drop, sym, subst, ◌∙◌, arith, get_or_default_zero, name_at, Adds, heads}
use Rattle.dom_range_ops.proofs.PieceRuns.{adds-none, adds-on}
use Rattle.dom_range_ops.proofs.PieceSteps.{heads-keys, heads-last}
use Rattle.dom_range_ops.proofs.pieces.sides.push_heads.Goals as goal

pub loop-at-init : goal.loop-at-init
loop-at-init c =
    let f = c.args.forest.now in
    let path = c.args.path.now in
    record {
      within = omega arith;
      added = subst (Adds f.names c.args.pieces.now.items c.args.pieces.now.items)
          (sym (heads-last f.trees f.names path c.args.before (length path - 1) (omega arith))) (adds-none f.names c.args.pieces.now.items);
    }

pub loop-at-preserved : goal.loop-at-preserved
loop-at-preserved c =
    let f = c.args.forest.now in
    let path = c.args.path.now in
    let j = c.loop-at.at - 1 in
    let i = c.loop-at.at - 1 - 1 in
    let le = c.loop-at.invariant.within in
    let more = c.loop-at-test.true in
    let up : suc i ≡ j = omega (arith, more) in
    let at_node : j < length path = omega (arith, le, more) in
    let at_child : i < length path = omega (arith, le, more) in
    record {
      within = omega (arith, le);
      added = subst (Adds f.names c.args.pieces.now.items c.push_head.new.pieces.items)
          (heads-keys f.trees f.names path c.args.before (omega (arith, at_node, up)) up
          (c.index-path-at.is ∙ get_or_default_zero path j c.index-path-at.result at_node)
          (c.index-path-at-in-loop-at.is ∙ get_or_default_zero path i c.index-path-at-in-loop-at.result at_child))
          (adds-on f.names
          (heads f.trees c.args.before (map (name_at f.names) (drop j path))) _ c.loop-at.invariant.added c.in_ok-push_head.ensures);
    }

pub returns : goal.returns
returns c =
    let f = c.args.forest.now in
    let few = c.loop-at-test.false in
    let none : c.loop-at.at - 1 ≡ 0 = omega (arith, few) in
    subst (λ k. Adds f.names c.args.pieces.now.items c.loop-at.pieces.items
    (heads f.trees c.args.before (map (name_at f.names) (drop k c.args.path.now)))) none c.loop-at.invariant.added
