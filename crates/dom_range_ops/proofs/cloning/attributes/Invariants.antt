use Rattle.dom_range_ops.proofs.Cited.{◌≡◌, ◌-◌, length, map, take, string_bytes, node_in, attribute_from, name_at}
use Rattle.dom_range_ops.proofs.cloning.attributes.Given as goal

abbrev pub invariant-loop-name : goal.invariant-loop-name
invariant-loop-name l = map (λ e. attribute_from (string_bytes e.0) e.1.items) l.copied.entries ≡ take (length l.copied.entries)
    (node_in l.forest.trees (name_at l.forest.names l.key)).attributes

abbrev pub decreases-loop-name : goal.decreases-loop-name
decreases-loop-name l = length (node_in l.forest.trees (name_at l.forest.names l.key)).attributes - length l.copied.entries
