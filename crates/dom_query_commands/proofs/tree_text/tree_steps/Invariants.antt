-- The steps so far, and the rest at the place, are the steps of the tree and those behind it.
use Rattle.dom_query_commands.proofs.Cited.{◌≡◌, ◌<◌, ◌++◌, length, true, option_map, ForSome, subtree, name_at, steps_view, shown_steps}
use Rattle.dom_query_commands.specs.TreeText.{place_view, key_of}
use Rattle.dom_query_commands.proofs.Places.{rest_behind, rest_or, is_within_if}
use Rattle.dom_query_commands.proofs.tree_text.tree_steps.Given as goal

abbrev pub invariant-loop-place : goal.invariant-loop-place
invariant-loop-place l = record {
  node : ForSome l.place (λ place. key_of place < length l.forest.names);
  within : is_within_if l.forest.trees (name_at l.forest.names l.top) (option_map (place_view l.forest.names) l.place) ≡ true;
  so_far : steps_view l.steps.items ++ rest_or l.forest.trees (name_at l.forest.names l.top) (option_map (place_view l.forest.names) l.place)
      ≡ shown_steps (subtree l.forest.trees (name_at l.forest.names l.top)) ++ rest_behind l.forest.trees (name_at l.forest.names l.top);
}

abbrev pub decreases-loop-place : goal.decreases-loop-place
decreases-loop-place l = length (rest_or l.forest.trees (name_at l.forest.names l.top) (option_map (place_view l.forest.names) l.place))
