use Rattle.dom_base.proofs.Std.{◌≡◌, fold, take}
use Rattle.dom_attributes.specs.Signs.{mix}
use Rattle.dom_attributes.proofs.signs.text_number.Given as goal

abbrev pub invariant-loop-byte : goal.invariant-loop-byte
invariant-loop-byte l = l.number ≡ fold mix l.fn.none (take l.byte-index l.byte-items)
