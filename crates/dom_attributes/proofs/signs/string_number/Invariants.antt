use Rattle.dom_base.proofs.Std.{◌≡◌, fold, take}
use Rattle.dom_attributes.specs.Signs.{mix}
use Rattle.dom_attributes.proofs.signs.string_number.Given as goal

abbrev pub invariant-loop-unit : goal.invariant-loop-unit
invariant-loop-unit l = l.number ≡ fold mix l.fn.none (take l.unit-index l.string)
