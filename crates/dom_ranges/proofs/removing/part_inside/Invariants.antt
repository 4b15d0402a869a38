use Rattle.dom_ranges.proofs.Cited.{◌≡◌, ℕ, ◌<◌, ◌≤◌, false, length, get_or, option_map, ForSome, inclusive_descendants, name_at, StandsIn, In, is_in, RangeEnd}
use Rattle.dom_laws.specs.Within.{from_node}
use Rattle.dom_ranges.proofs.removing.part_inside.Given as goal

abbrev pub invariant-loop-at : goal.invariant-loop-at
invariant-loop-at l = record {
  stands : 0 < length l.ends → ForSome l.at (StandsIn l.forest l.top);
  few : l.left ≤ length l.ends;
  within : l.part.behind ≤ length l.ends;
  near : l.near ≤ length l.ends;
  ahead : (k : ℕ) (d : RangeEnd) → k < length l.ends → is_in l.part k ≡ false →
      In (name_at l.forest.names (get_or l.ends k d).node) (inclusive_descendants l.forest.trees (name_at l.forest.names l.top))
      → In (name_at l.forest.names (get_or l.ends k d).node)
      (from_node l.forest.trees (name_at l.forest.names l.top) (option_map (name_at l.forest.names) l.at));
}

abbrev pub decreases-loop-at : goal.decreases-loop-at
decreases-loop-at l = l.left
