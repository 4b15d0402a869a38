use Rattle.dom_traversal.proofs.Cited.{◌≡◌, length, option_map, ForSome, ahead_of, last_of, name_at, up_to_node, walker_nodes, ComesBack, walker_view}
use Rattle.dom_traversal.proofs.walker.Walker.previous_node.Given as goal

abbrev pub invariant-loop-at : goal.invariant-loop-at
invariant-loop-at l = record {
  comes : ForSome l.at (ComesBack l.forest l.self);
  left : last_of (walker_nodes l.forest.trees (walker_view l.forest.names l.self)
      (up_to_node l.forest.trees (name_at l.forest.names l.self.root) (option_map (name_at l.forest.names) l.at)))
      ≡ last_of (walker_nodes l.forest.trees (walker_view l.forest.names l.self)
      (ahead_of l.forest.trees (name_at l.forest.names l.self.root) (name_at l.forest.names l.self.current)));
}

abbrev pub decreases-loop-at : goal.decreases-loop-at
decreases-loop-at l = length (up_to_node l.forest.trees (name_at l.forest.names l.self.root) (option_map (name_at l.forest.names) l.at))
