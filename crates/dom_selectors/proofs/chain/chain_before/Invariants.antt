-- The elements that are still to be tried hold what all hold.
use Rattle.dom_selectors.proofs.Cited.{◌≡◌, ◌<◌, length, list_any, option_map, ForSome, ancestors, complex_matches, elements_before, name_at, complex_from}
use Rattle.dom_selectors.proofs.Earlier.{elements_upto}
use Rattle.dom_selectors.proofs.chain.chain_before.Given as goal

abbrev pub invariant-loop-at : goal.invariant-loop-at
invariant-loop-at l = record {
  node : ForSome l.at (λ k. k < length l.forest.names);
  above : ForSome l.at (λ k. ancestors l.forest.trees (name_at l.forest.names k) ≡ ancestors l.forest.trees (name_at l.forest.names l.fn.key));
  left : list_any (complex_matches l.forest.trees (complex_from l.first l.links))
      (elements_upto l.forest.trees (option_map (name_at l.forest.names) l.at)) ≡ list_any
      (complex_matches l.forest.trees (complex_from l.first l.links)) (elements_before l.forest.trees (name_at l.forest.names l.fn.key));
}

abbrev pub decreases-loop-at : goal.decreases-loop-at
decreases-loop-at l = length (elements_upto l.forest.trees (option_map (name_at l.forest.names) l.at))
