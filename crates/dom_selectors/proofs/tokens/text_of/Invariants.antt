-- The bytes are the units so far.
use Rattle.dom_selectors.proofs.Cited.{◌≡◌, take}
use Rattle.dom_selectors.proofs.tokens.text_of.Given as goal

abbrev pub invariant-loop-unit : goal.invariant-loop-unit
invariant-loop-unit l = l.bytes.items ≡ take l.unit-index l.units
