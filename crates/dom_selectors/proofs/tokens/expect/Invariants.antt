-- The text left and the units left are to be read as those at the start.
use Rattle.dom_selectors.proofs.Cited.{◌≡◌, drop, expect}
use Rattle.dom_selectors.proofs.tokens.expect.Given as goal

abbrev pub invariant-loop-byte : goal.invariant-loop-byte
invariant-loop-byte l = expect (drop l.byte-index l.text) l.rest ≡ expect l.text l.units
