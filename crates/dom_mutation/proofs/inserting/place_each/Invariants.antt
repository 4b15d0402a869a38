use Rattle.dom_mutation.proofs.Cited.{drop}
use Rattle.dom_mutation.proofs.Turns.{Places}
use Rattle.dom_mutation.proofs.inserting.place_each.Given as goal

abbrev pub invariant-loop-node : goal.invariant-loop-node
invariant-loop-node l = Places l.parent l.before l.moved l.initial.parts (drop l.node-index l.moved) l.parts
