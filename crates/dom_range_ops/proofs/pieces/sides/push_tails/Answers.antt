use Rattle.dom_range_ops.proofs.Cited.{◌≡◌, suc, ◌+◌, ◌-◌, ◌<◌, length, map, drop, ◌∙◌, arith, get_or_default_zero, name_at, tails}
use Rattle.dom_range_ops.proofs.PieceRuns.{partway-first, partway-more, partway-all}
use Rattle.dom_range_ops.proofs.PieceSteps.{tails-keys, tails-last}
use Rattle.dom_range_ops.proofs.pieces.sides.push_tails.Goals as goal

pub loop-at-init : goal.loop-at-init
loop-at-init c =
    let f = c.args.forest.now in
    partway-first f.names c.args.pieces.now.items (tails f.trees c.args.behind (map (name_at f.names) c.args.path.now))

pub loop-at-preserved : goal.loop-at-preserved
loop-at-preserved c =
    let f = c.args.forest.now in
    let path = c.args.path.now in
    let i = c.loop-at.at - 1 in
    let j = c.loop-at.at + 1 - 1 in
    let one = c.loop-at.auto.at in
    let less = c.loop-at-test.true in
    let up : suc i ≡ j = omega (arith, one) in
    let at_child : i < length path = omega (arith, one, less) in
    partway-more _
    (tails f.trees c.args.behind (map (name_at f.names) (drop j path))) c.loop-at.invariant c.in_ok-push_tail.ensures
    (tails-keys f.trees f.names path c.args.behind (omega (arith, one, less)) up
    (c.index-path-at.is ∙ get_or_default_zero path i c.index-path-at.result at_child))

pub returns : goal.returns
returns c =
    let f = c.args.forest.now in
    let path = c.args.path.now in
    let i = c.loop-at.at - 1 in
    let over = c.loop-at-test.false in
    partway-all c.loop-at.invariant
    (tails-last f.trees f.names path c.args.behind i (omega (arith, over)))
