-- Keys of nodes by their names, and a node's inclusive ancestors by their keys.
use Rattle.std.specs.Prelude.{ℕ, zero, suc, List, [], ◌∷◌, map, Option, if◌then◌else◌}
use Rattle.std.specs.Option.{option_map_or}
use Rattle.dom_base.specs.declared.NodeName.{NodeName}
use Rattle.dom_model.specs.Names.{name_eq}
use Rattle.dom_model.specs.Tree.{inclusive_ancestors}
use Rattle.dom_tree.specs.Forest.{NamedTrees, name_at}

-- the key of a name: its place among the names (own rule)
abbrev pub key_of : List NodeName → NodeName → ℕ
key_of [] x = zero
key_of (y ∷ ys) x = if name_eq x y then zero else suc (key_of ys x)

-- the keys of a node's inclusive ancestors, the node's own first (DOM Standard, concept: inclusive ancestor)
abbrev pub path_keys : NamedTrees → ℕ → List ℕ
path_keys f k = map (key_of f.names) (inclusive_ancestors f.trees (name_at f.names k))

-- those of a node that may not be there, of which there are then none
abbrev pub keys_from : NamedTrees → Option ℕ → List ℕ
keys_from f at = option_map_or (path_keys f) at []
