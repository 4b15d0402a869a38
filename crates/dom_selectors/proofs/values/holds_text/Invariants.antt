-- The units that are left have it where all have.
use Rattle.dom_selectors.proofs.Cited.{◌≡◌, length, holds_text}
use Rattle.dom_selectors.proofs.values.holds_text.Given as goal

abbrev pub invariant-loop-rest : goal.invariant-loop-rest
invariant-loop-rest l = holds_text l.rest l.part ≡ holds_text l.text l.part

abbrev pub decreases-loop-rest : goal.decreases-loop-rest
decreases-loop-rest l = length l.rest
