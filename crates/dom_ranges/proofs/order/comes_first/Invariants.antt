use Rattle.dom_ranges.proofs.Cited.{◌≡◌, ◌<◌, ◌≤◌, ◌+◌, length, index_of, name_at}
use Rattle.dom_ranges.proofs.order.comes_first.Given as goal

abbrev pub invariant-back : goal.invariant-back
invariant-back l = record {
  low_is_node : l.low < length l.forest.names;
  other_is_node : l.other < length l.forest.names;
  difference : index_of l.forest.trees (name_at l.forest.names l.first) + index_of l.forest.trees (name_at l.forest.names l.other)
      ≡ index_of l.forest.trees (name_at l.forest.names l.second) + index_of l.forest.trees (name_at l.forest.names l.low);
  low_before : index_of l.forest.trees (name_at l.forest.names l.low) ≤ index_of l.forest.trees (name_at l.forest.names l.first);
}

abbrev pub decreases-back : goal.decreases-back
decreases-back l = index_of l.forest.trees (name_at l.forest.names l.low)
