use Rattle.dom_mutation.proofs.Cited.{drop}
use Rattle.dom_mutation.proofs.NormalizedEach.{Normalizes}
use Rattle.dom_mutation.proofs.normalizing.normalize_each.Given as goal

abbrev pub invariant-loop-text : goal.invariant-loop-text
invariant-loop-text l = Normalizes l.fn.top l.texts l.initial.parts (drop l.text-index l.texts) l.parts
