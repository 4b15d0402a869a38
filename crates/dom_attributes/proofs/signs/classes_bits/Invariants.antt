-- The classes so far have their bits.
use Rattle.dom_attributes.proofs.SignLaws.{AreClassed}
use Rattle.dom_attributes.proofs.signs.classes_bits.Given as goal

abbrev pub invariant-loop-unit : goal.invariant-loop-unit
invariant-loop-unit l = AreClassed l.value l.bits l.number l.unit-index
