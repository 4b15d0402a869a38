-- The walk is under way, and the rest of the tree's text becomes shorter.
use Rattle.dom_query_commands.proofs.Cited.{length, option_map, name_at}
use Rattle.dom_query_commands.specs.Looks.{opened}
use Rattle.dom_query_commands.specs.TreeText.{place_view}
use Rattle.dom_query_commands.proofs.Places.{rest_or}
use Rattle.dom_query_commands.proofs.Rows.{IsUnderWay}
use Rattle.dom_query_commands.proofs.structure.structure_rows.Given as goal

abbrev pub invariant-loop-place : goal.invariant-loop-place
invariant-loop-place l = IsUnderWay l.forest.names l.forest.trees l.top l.place (opened l.rows.items l.places.items)

abbrev pub decreases-loop-place : goal.decreases-loop-place
decreases-loop-place l = length (rest_or l.forest.trees (name_at l.forest.names l.top) (option_map (place_view l.forest.names) l.place))
