-- What is left answers for the whole.
use Rattle.dom_selectors.proofs.Cited.{◌≡◌, ◌<◌, length, complex_matches, name_at, IsDescendant, StopsAt, complex_from}
use Rattle.dom_selectors.proofs.joined.end_matches.Given as goal

abbrev pub invariant-loop-left : goal.invariant-loop-left
invariant-loop-left l = record {
  node : l.at < length l.forest.names;
  same : complex_matches l.forest.trees (complex_from l.first l.fn.links) (name_at l.forest.names l.fn.key) ≡ complex_matches l.forest.trees
      (complex_from l.first l.rest) (name_at l.forest.names l.at);
  stops : StopsAt IsDescendant l.forest.trees (complex_from l.first l.rest) (name_at l.forest.names l.at);
}

abbrev pub decreases-loop-left : goal.decreases-loop-left
decreases-loop-left l = length l.rest
