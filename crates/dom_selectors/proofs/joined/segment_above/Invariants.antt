-- The ancestors that are still to be tried hold what all hold.
use Rattle.dom_selectors.proofs.Cited.{◌≡◌, ◌<◌, length, list_any, option_map, ForSome, ancestors, complex_matches, name_at, complex_from}
use Rattle.dom_selectors.proofs.JoinedLaws.{from_above}
use Rattle.dom_selectors.proofs.joined.segment_above.Given as goal

abbrev pub invariant-loop-at : goal.invariant-loop-at
invariant-loop-at l = record {
  node : ForSome l.at (λ k. k < length l.forest.names);
  left : list_any (complex_matches l.forest.trees (complex_from l.first l.links))
      (from_above l.forest.trees (option_map (name_at l.forest.names) l.at)) ≡ list_any
      (complex_matches l.forest.trees (complex_from l.first l.links)) (ancestors l.forest.trees (name_at l.forest.names l.fn.key));
}

abbrev pub decreases-loop-at : goal.decreases-loop-at
decreases-loop-at l = length (from_above l.forest.trees (option_map (name_at l.forest.names) l.at))
