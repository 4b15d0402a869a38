use Rattle.dom_mutation.proofs.Cited.{observing_of}
use Rattle.dom_mutation.proofs.Turns.{empties_first, empties_on}
use Rattle.dom_mutation.proofs.inserting.take_each.Goals as goal

pub loop-child-init : goal.loop-child-init
loop-child-init c = empties_first (observing_of c.args.how) c.args.top c.args.children.now c.args.parts.now
    (c.laws.ensures.alone c.args.top c.requires.top_is_node)

pub loop-child-preserved : goal.loop-child-preserved
loop-child-preserved c =
    empties_on (observing_of c.args.how) c.args.top c.args.children.now c.args.parts.now c.loop-child.child-index
    {k = c.child-item.result} {e = c.loop-child.parts} c.laws-in-loop-child.ensures.once
    record { below = c.loop-child-test.true; item = c.child-item.is } c.requires.children_are_nodes c.loop-child.invariant c.in_ok-removing.ensures
