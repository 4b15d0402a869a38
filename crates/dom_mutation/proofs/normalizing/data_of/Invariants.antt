use Rattle.dom_mutation.proofs.Cited.{drop}
use Rattle.dom_mutation.proofs.Joined.{Collects}
use Rattle.dom_mutation.proofs.normalizing.data_of.Given as goal

abbrev pub invariant-loop-text : goal.invariant-loop-text
invariant-loop-text l = Collects l.parts l.fn.top l.texts l.units.items (drop l.text-index l.texts)
