use Rattle.dom_range_ops.proofs.Cited.{◌≡◌, ◌<◌, ◌++◌, length, map, drop, flat_map, AllByRecursion, name_at, range_at_points, contained_text, nodes_around}
use Rattle.dom_range_ops.proofs.Cited.{tree_text}
use Rattle.dom_range_ops.proofs.text.push_contained.Given as goal

abbrev pub invariant-loop-top : goal.invariant-loop-top
invariant-loop-top l = record {
  left : l.text.items ++ flat_map (tree_text l.forest.trees (range_at_points l.forest.names l.points)) (map (name_at l.forest.names) (drop l.top-index l.tops))
      ≡ l.fn.text.items ++ contained_text l.forest.trees (range_at_points l.forest.names l.points)
      (nodes_around l.forest.trees (range_at_points l.forest.names l.points));
  nodes : AllByRecursion (λ k. k < length l.forest.names) (drop l.top-index l.tops);
}
