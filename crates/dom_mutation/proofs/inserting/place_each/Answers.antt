use Rattle.dom_mutation.proofs.Turns.{places_first, places_on}
use Rattle.dom_mutation.proofs.inserting.place_each.Goals as goal

pub loop-node-init : goal.loop-node-init
loop-node-init c = places_first c.args.parent c.args.before c.args.moved.now c.args.parts.now (c.laws.ensures.alone c.args.parent c.requires.parent_is_node)

pub loop-node-preserved : goal.loop-node-preserved
loop-node-preserved c =
    places_on c.args.parent c.args.before c.args.moved.now c.args.parts.now c.laws.ensures.once c.requires.may_move c.requires.before_is_child
    c.loop-node.node-index c.loop-node-test.true c.node-item.is c.loop-node.invariant
    c.in_ok-placing.ensures.state c.in_ok-placing.ensures.paths
