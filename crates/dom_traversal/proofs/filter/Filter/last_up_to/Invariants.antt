use Rattle.dom_traversal.proofs.Cited.{◌≡◌, length, filter, option_map, ForSome, accepts, last_of, name_at, StandsIn, up_to_node, filter_of}
use Rattle.dom_traversal.proofs.filter.Filter.last_up_to.Given as goal

abbrev pub invariant-loop-at : goal.invariant-loop-at
invariant-loop-at l = record {
  stands : ForSome l.at (StandsIn l.forest l.top);
  left : last_of (filter (accepts l.forest.trees (filter_of l.self))
      (up_to_node l.forest.trees (name_at l.forest.names l.top) (option_map (name_at l.forest.names) l.at)))
      ≡ last_of (filter (accepts l.forest.trees (filter_of l.self))
      (up_to_node l.forest.trees (name_at l.forest.names l.top) (option_map (name_at l.forest.names) l.initial.at)));
}

abbrev pub decreases-loop-at : goal.decreases-loop-at
decreases-loop-at l = length (up_to_node l.forest.trees (name_at l.forest.names l.top) (option_map (name_at l.forest.names) l.at))
