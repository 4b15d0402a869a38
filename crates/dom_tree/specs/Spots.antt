-- What holds of a node of a forest, where it lies.
use Rattle.std.specs.Prelude.{◌≡◌, ℕ, ◌<◌, List, length}
use Rattle.dom_base.specs.declared.Owner.{Owner}
use Rattle.dom_base.specs.declared.NodeName.{NodeName}
use Rattle.node_arena.specs.Nodes.{Nodes}
use Rattle.node_arena.specs.Spots.{Spot}
use Rattle.dom_tree.specs.Contents.{Stored}
use Rattle.dom_tree.specs.Forest.{NamedTrees, name_of, stored_names, nodes_of, IsKept}
use Rattle.dom_tree.specs.Rows.{trees_of}

-- the name of a node of a forest
abbrev pub name_here : Spot NamedTrees → NodeName
name_here s = name_of s.whole s.key

-- what is seen of the nodes of an arena
abbrev pub forest_of : Nodes Stored → NamedTrees
forest_of a = record { names = stored_names a.payloads; trees = trees_of (nodes_of a.payloads) a.children }

-- a node of an arena is one of a forest
pub record IsOfForest (f : NamedTrees) (s : Spot (Nodes Stored)) : Type 0 where
  pub seen : forest_of s.whole ≡ f
  pub keys : Owner → List ℕ
  pub kept : IsKept s.whole.payloads s.whole.children keys
  pub node : s.key < length s.whole.payloads
