-- The attributes so far are the first ones of the node.
use Rattle.dom_query_commands.proofs.Cited.{◌≡◌, ◌-◌, length, take, node_in, name_at, attributes_view}
use Rattle.dom_query_commands.proofs.tree_text.attributes.Given as goal

abbrev pub invariant-loop-name : goal.invariant-loop-name
invariant-loop-name l = attributes_view l.attributes.items ≡ take (length l.attributes.items) (node_in l.forest.trees (name_at l.forest.names l.key)).attributes

abbrev pub decreases-loop-name : goal.decreases-loop-name
decreases-loop-name l = length (node_in l.forest.trees (name_at l.forest.names l.key)).attributes - length l.attributes.items
