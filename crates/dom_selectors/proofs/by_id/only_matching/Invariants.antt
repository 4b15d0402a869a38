-- Who matches is the one that was found, or matches one of those that are left.
use Rattle.dom_selectors.proofs.Cited.{◌≡◌, ◌<◌, ℕ, length, map, true, ForSome, name_at, selector_matches, complex_view}
use Rattle.dom_selectors.proofs.IdQueries.{IsLeft}
use Rattle.dom_selectors.proofs.by_id.only_matching.Given as goal

abbrev pub invariant-loop-rest : goal.invariant-loop-rest
invariant-loop-rest l = record {
  node : ForSome l.only (λ k. k < length l.forest.names);
  kept : (k : ℕ) → k < length l.forest.names → (name_at l.forest.names k).owner ≡ l.owner →
      selector_matches l.forest.trees (map complex_view l.complexes) (name_at l.forest.names k) ≡ true →
      IsLeft l.only k (selector_matches l.forest.trees (map complex_view l.rest) (name_at l.forest.names k));
}

abbrev pub decreases-loop-rest : goal.decreases-loop-rest
decreases-loop-rest l = length l.rest
