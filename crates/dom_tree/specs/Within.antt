-- Keys of nodes in the tree of another one.
use Rattle.std.specs.Prelude.{◌≡◌, ℕ, ◌<◌, true, length}
use Rattle.dom_model.specs.Names.{name_eq, is_in}
use Rattle.dom_model.specs.Tree.{ancestors, is_inclusive_ancestor}
use Rattle.dom_tree.specs.Forest.{NamedTrees, name_at}

-- a key of a node in the tree of another one
pub record StandsIn (f : NamedTrees) (top key : ℕ) : Type 0 where
  pub node : key < length f.names
  pub within : is_inclusive_ancestor f.trees (name_at f.names top) (name_at f.names key) ≡ true

-- a key of a node below another one
pub record StandsBelow (f : NamedTrees) (top key : ℕ) : Type 0 where
  pub node : key < length f.names
  pub below : is_in name_eq (name_at f.names top) (ancestors f.trees (name_at f.names key)) ≡ true
