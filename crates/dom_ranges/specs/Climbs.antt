-- Where keys' nodes stand in their trees, and what is reached by going up from them.
use Rattle.std.specs.Prelude.{◌≡◌, ◌≢◌, ℕ, ◌<◌, false, List, ◌∷◌, ◌++◌, length, slice_index_or, Option, Some, None}
use Rattle.dom_model.specs.Place.{place_of}
use Rattle.dom_model.specs.Tree.{parent_of, index_of}
use Rattle.dom_tree.specs.Forest.{NamedTrees, name_at}
use Rattle.dom_ranges.specs.Rules.{is_inside}
use Rattle.dom_ranges.specs.declared.ends.RangeEnd.{RangeEnd}

-- the place of a key's node
abbrev pub path_at : NamedTrees → ℕ → List ℕ
path_at f k = place_of f.trees (name_at f.names k)

-- how deep it stands: 1 for a root
abbrev pub depth_at : NamedTrees → ℕ → ℕ
depth_at f k = length (path_at f k)

-- a key's node is `top`, or stands in or below a child of it
abbrev pub Reaches : NamedTrees → ℕ → ℕ → Option ℕ → Type 0
Reaches f key top None = key ≡ top
Reaches f key top (Some child) =
    (child < length f.names) × (parent_of f.trees (name_at f.names child) ≡ Some (name_at f.names top)) ×
    ((rest : List ℕ) × (path_at f key ≡ path_at f child ++ rest))

-- two keys' nodes stand in or below two children of one node
pub record AreBeside (f : NamedTrees) (first second low other : ℕ) : Type 0 where
  pub path : List ℕ
  pub first_rest : List ℕ
  pub second_rest : List ℕ
  pub first_path : path_at f first ≡ path ++ index_of f.trees (name_at f.names low) ∷ first_rest
  pub second_path : path_at f second ≡ path ++ index_of f.trees (name_at f.names other) ∷ second_rest
  pub apart : index_of f.trees (name_at f.names low) ≢ index_of f.trees (name_at f.names other)

-- the ends before a place stand outside the tree of `top`, and the one at the place just if a node does that was reached by going up
pub record AreTested (f : NamedTrees) (top : ℕ) (es : List RangeEnd) (place at : ℕ) : Type 0 where
  pub within : place < length es
  pub node : at < length f.names
  pub before : (k : ℕ) (d : RangeEnd) → k < place → is_inside f top (slice_index_or es k d).node ≡ false
  pub same : (d : RangeEnd) → is_inside f top (slice_index_or es place d).node ≡ is_inside f top at
