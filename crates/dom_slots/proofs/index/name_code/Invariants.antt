use Rattle.dom_base.proofs.Std.{◌≡◌, fold, take}
use Rattle.dom_attributes.specs.Signs.{mix}
use Rattle.dom_slots.proofs.index.name_code.Given as goal

abbrev pub invariant-loop-unit : goal.invariant-loop-unit
invariant-loop-unit l = l.number ≡ fold mix l.fn.root (take l.unit-index l.name)
