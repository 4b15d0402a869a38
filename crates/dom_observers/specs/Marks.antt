-- Which nodes are marked, and which of them a walk upwards comes to.
use Rattle.std.specs.Prelude.{◌≡◌, ℕ, Bool, true, false, nat_eq, List, ◌∷◌, filter, drop, slice_index_or, Option}
use Rattle.std.specs.Option.{ForSome}
use Rattle.dom_tree.specs.Forest.{NamedTrees, IsNode}
use Rattle.dom_observers.specs.declared.marks.Marks.{Marks}
use Rattle.dom_observers.specs.declared.marks.Marks.TheVariants.{Empty, One, Many}
use Rattle.dom_observers.specs.Paths.{path_keys, keys_from}

-- whether a node is marked by its byte
abbrev pub marked_in : List Bool → ℕ → Bool
marked_in bytes x = slice_index_or bytes x false

-- whether a node is marked
abbrev pub is_marked : Marks → ℕ → Bool
is_marked Empty x = false
is_marked (One k) x = nat_eq k x
is_marked (Many bytes) x = marked_in bytes.items x

-- the nodes that a walk upwards looks at: the one from which it goes, and those above it that are marked (own rule)
abbrev pub looked_at : NamedTrees → Marks → ℕ → List ℕ
looked_at f m k = k ∷ filter (is_marked m) (drop 1 (path_keys f k))

-- a node that is marked, or none, from which upwards as many are marked as from another one on (own rule)
pub record IsNearest (f : NamedTrees) (m : Marks) (from at : Option ℕ) : Type 0 where
  pub node : ForSome at (IsNode f)
  pub marked : ForSome at (λ k. is_marked m k ≡ true)
  pub others : filter (is_marked m) (keys_from f from) ≡ filter (is_marked m) (keys_from f at)
