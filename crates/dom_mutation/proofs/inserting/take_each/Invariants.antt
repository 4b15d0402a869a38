use Rattle.dom_mutation.proofs.Cited.{drop, observing_of}
use Rattle.dom_mutation.proofs.Turns.{Empties}
use Rattle.dom_mutation.proofs.inserting.take_each.Given as goal

abbrev pub invariant-loop-child : goal.invariant-loop-child
invariant-loop-child l = Empties (observing_of l.how) l.fn.top l.children l.initial.parts (drop l.child-index l.children) l.parts
