use Rattle.dom_traversal.proofs.Cited.{◌≡◌, length, beyond, inclusive_ancestors, name_at, StandsIn}
use Rattle.dom_traversal.proofs.search.beyond.Given as goal

abbrev pub invariant-loop-top : goal.invariant-loop-top
invariant-loop-top l = record {
  stands : StandsIn l.forest l.top l.at;
  left : beyond l.forest.trees (name_at l.forest.names l.top) (name_at l.forest.names l.at) ≡ beyond l.forest.trees (name_at l.forest.names l.top)
      (name_at l.forest.names l.fn.key);
}

abbrev pub decreases-loop-top : goal.decreases-loop-top
decreases-loop-top l = length (inclusive_ancestors l.forest.trees (name_at l.forest.names l.at))
