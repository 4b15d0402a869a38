-- The nodes so far, and the siblings from here on, are the children.
use Rattle.dom_query_commands.proofs.Cited.{◌≡◌, ◌<◌, ◌++◌, length, map, option_map, ForSome, children_of, name_at, from_sibling}
use Rattle.dom_base.proofs.Std.{All}
use Rattle.dom_query_commands.proofs.Siblings.{IsChildOf}
use Rattle.dom_query_commands.proofs.reads.children_of.Given as goal

abbrev pub invariant-loop-at : goal.invariant-loop-at
invariant-loop-at l = record {
  node : ForSome l.at (λ k. k < length l.forest.names);
  child : IsChildOf l.forest.trees (name_at l.forest.names l.fn.node) (option_map (name_at l.forest.names) l.at);
  nodes : All (λ k. k < length l.forest.names) l.children.items;
  so_far : map (name_at l.forest.names) l.children.items ++ from_sibling l.forest.trees (option_map (name_at l.forest.names) l.at) ≡
      children_of l.forest.trees (name_at l.forest.names l.fn.node);
}

abbrev pub decreases-loop-at : goal.decreases-loop-at
decreases-loop-at l = length (from_sibling l.forest.trees (option_map (name_at l.forest.names) l.at))
