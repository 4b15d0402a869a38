use Rattle.dom_traversal.proofs.Cited.{◌≡◌, length, filter, option_map, ForSome, accepts, first_of, from_node, name_at, StandsIn, filter_of}
use Rattle.dom_traversal.proofs.filter.Filter.first_from.Given as goal

abbrev pub invariant-loop-at : goal.invariant-loop-at
invariant-loop-at l = record {
  stands : ForSome l.at (StandsIn l.forest l.top);
  left : first_of (filter (accepts l.forest.trees (filter_of l.self))
      (from_node l.forest.trees (name_at l.forest.names l.top) (option_map (name_at l.forest.names) l.at)))
      ≡ first_of (filter (accepts l.forest.trees (filter_of l.self))
      (from_node l.forest.trees (name_at l.forest.names l.top) (option_map (name_at l.forest.names) l.initial.at)));
}

abbrev pub decreases-loop-at : goal.decreases-loop-at
decreases-loop-at l = length (from_node l.forest.trees (name_at l.forest.names l.top) (option_map (name_at l.forest.names) l.at))
