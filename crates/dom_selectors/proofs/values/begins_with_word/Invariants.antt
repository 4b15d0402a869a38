-- The word left and the units left are compared as those at the start.
use Rattle.dom_selectors.proofs.Cited.{◌≡◌, drop, begins_with_word}
use Rattle.dom_selectors.proofs.values.begins_with_word.Given as goal

abbrev pub invariant-loop-unit : goal.invariant-loop-unit
invariant-loop-unit l = begins_with_word (drop l.unit-index l.word) l.rest ≡ begins_with_word l.word l.text
