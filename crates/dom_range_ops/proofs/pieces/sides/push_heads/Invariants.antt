use Rattle.dom_range_ops.proofs.Cited.{◌-◌, ◌≤◌, length, map, drop, name_at, Adds, heads}
use Rattle.dom_range_ops.proofs.pieces.sides.push_heads.Given as goal

abbrev pub invariant-loop-at : goal.invariant-loop-at
invariant-loop-at l = record {
  within : l.at ≤ length l.path;
  added : Adds l.forest.names l.fn.pieces.items l.pieces.items (heads l.forest.trees l.before (map (name_at l.forest.names) (drop (l.at - 1) l.path)));
}

abbrev pub decreases-loop-at : goal.decreases-loop-at
decreases-loop-at l = l.at
