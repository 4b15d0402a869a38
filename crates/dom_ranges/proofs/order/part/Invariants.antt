use Rattle.dom_ranges.proofs.Cited.{◌≡◌, ◌≢◌, ◌<◌, length, List, ℕ, ◌++◌, first_of, depth_at, path_at}
use Rattle.dom_ranges.proofs.order.part.Given as goal

abbrev pub invariant-up : goal.invariant-up
invariant-up l = record {
  low_is_node : l.low < length l.forest.names;
  other_is_node : l.other < length l.forest.names;
  apart : l.low ≢ l.other;
  level : depth_at l.forest l.low ≡ depth_at l.forest l.other;
  one_tree : first_of (path_at l.forest l.low) ≡ first_of (path_at l.forest l.other);
  first_path : (rest : List ℕ) × (path_at l.forest l.fn.first ≡ path_at l.forest l.low ++ rest);
  second_path : (rest : List ℕ) × (path_at l.forest l.fn.second ≡ path_at l.forest l.other ++ rest);
}

abbrev pub decreases-up : goal.decreases-up
decreases-up l = depth_at l.forest l.low
