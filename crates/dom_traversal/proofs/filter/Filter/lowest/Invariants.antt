use Rattle.dom_traversal.proofs.Cited.{◌≡◌, ◌<◌, ◌++◌, List, length, true, Some, list_all, ancestors, inclusive_descendants, is_inclusive_ancestor, name_at}
use Rattle.dom_traversal.proofs.Cited.{NodeName, up_to_tree, filter_of, is_entered}
use Rattle.dom_traversal.proofs.filter.Filter.lowest.Given as goal

abbrev pub invariant-loop-at : goal.invariant-loop-at
invariant-loop-at l = record {
  node : l.at < length l.forest.names;
  within : (top : NodeName) → is_inclusive_ancestor l.forest.trees top (name_at l.forest.names l.fn.key) ≡ true →
      is_inclusive_ancestor l.forest.trees top (name_at l.forest.names l.at) ≡ true;
  tree : (top : NodeName) → is_inclusive_ancestor l.forest.trees top (name_at l.forest.names l.fn.key) ≡ true →
      up_to_tree l.forest.trees top (Some (name_at l.forest.names l.at)) ≡ up_to_tree l.forest.trees top (Some (name_at l.forest.names l.fn.key));
  path : (between : List NodeName) × (ancestors l.forest.trees (name_at l.forest.names l.at) ≡ between ++
      ancestors l.forest.trees (name_at l.forest.names l.fn.key)) ×
      (list_all (is_entered l.forest.trees (filter_of l.self) l.through) between ≡ true);
}

abbrev pub decreases-loop-at : goal.decreases-loop-at
decreases-loop-at l = length (inclusive_descendants l.forest.trees (name_at l.forest.names l.at))
