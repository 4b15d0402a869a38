use Rattle.dom_ranges.proofs.Cited.{◌≡◌, ◌<◌, ◌+◌, length, true, is_inclusive_ancestor, name_at, depth_at, Reaches}
use Rattle.dom_ranges.proofs.order.climb.Given as goal

abbrev pub invariant-up : goal.invariant-up
invariant-up l = record {
  top_is_node : l.top < length l.forest.names;
  left_is_node : l.left < length l.forest.names;
  depth : depth_at l.forest l.top + depth_at l.forest l.fn.gauge ≡ depth_at l.forest l.fn.key + depth_at l.forest l.left;
  above : is_inclusive_ancestor l.forest.trees (name_at l.forest.names l.top) (name_at l.forest.names l.fn.key) ≡ true;
  reached : Reaches l.forest l.fn.key l.top l.child;
}

abbrev pub decreases-up : goal.decreases-up
decreases-up l = depth_at l.forest l.top
