use Rattle.dom_range_ops.proofs.Cited.{◌≡◌, ◌++◌, length, flat_map, option_map, ForSome, text_part, name_at, StandsIn, from_node, range_at_points, tree_text}
use Rattle.dom_range_ops.proofs.text.push_tree.Given as goal

abbrev pub invariant-loop-at : goal.invariant-loop-at
invariant-loop-at l = record {
  stands : ForSome l.at (StandsIn l.forest l.top);
  left : l.text.items ++ flat_map (text_part l.forest.trees (range_at_points l.forest.names l.points))
      (from_node l.forest.trees (name_at l.forest.names l.top) (option_map (name_at l.forest.names) l.at))
      ≡ l.fn.text.items ++ tree_text l.forest.trees (range_at_points l.forest.names l.points) (name_at l.forest.names l.top);
}

abbrev pub decreases-loop-at : goal.decreases-loop-at
decreases-loop-at l = length (from_node l.forest.trees (name_at l.forest.names l.top) (option_map (name_at l.forest.names) l.at))
