use Rattle.dom_ranges.proofs.Cited.{◌≡◌, ◌<◌, ◌≤◌, ◌+◌, length, true, is_inclusive_ancestor, name_at, depth_at}
use Rattle.dom_ranges.proofs.order.climb_together.Given as goal

abbrev pub invariant-up : goal.invariant-up
invariant-up l = record {
  first_is_node : l.first_at < length l.forest.names;
  second_is_node : l.second_at < length l.forest.names;
  first_climbed : is_inclusive_ancestor l.forest.trees (name_at l.forest.names l.first_at) (name_at l.forest.names l.fn.first) ≡ true;
  second_climbed : is_inclusive_ancestor l.forest.trees (name_at l.forest.names l.second_at) (name_at l.forest.names l.fn.second) ≡ true;
  difference : depth_at l.forest l.first_at + depth_at l.forest l.fn.second ≡ depth_at l.forest l.fn.first + depth_at l.forest l.second_at;
  first_not_deeper : depth_at l.forest l.first_at ≤ depth_at l.forest l.fn.first;
  second_not_deeper : depth_at l.forest l.second_at ≤ depth_at l.forest l.fn.second;
}

abbrev pub decreases-up : goal.decreases-up
decreases-up l = depth_at l.forest l.first_at
