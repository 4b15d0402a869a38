-- What is left shows fewer signs where all does.
use Rattle.dom_selectors.proofs.Cited.{ℕ, length, map, complex_view}
use Rattle.dom_attributes.specs.Signs.{HasBits}
use Rattle.dom_selectors.specs.Signs.{SelectorShows}
use Rattle.dom_selectors.proofs.asking.common_signs.Given as goal

abbrev pub invariant-loop-rest : goal.invariant-loop-rest
invariant-loop-rest l = record {
  some : (bits : ℕ) → HasBits l.signs.bits bits → SelectorShows (map complex_view l.rest) bits → SelectorShows (map complex_view l.complexes) bits;
  given : HasBits l.fn.signs.bits l.signs.bits;
}

abbrev pub decreases-loop-rest : goal.decreases-loop-rest
decreases-loop-rest l = length l.rest
