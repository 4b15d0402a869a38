-- What is kept for each node by its number.
use Rattle.std.specs.Prelude.{◌≡◌, ℕ, Bool, false, nat_eq, List, [], ◌∷◌, Option, None, Vec, slice_get, slice_index_or}
use Rattle.std.specs.Option.{option_map_or}
use Rattle.dom_model.specs.Names.{is_in}

-- the node for a node, if there is one
abbrev pub value_at : List (Option ℕ) → ℕ → Option ℕ
value_at values k = slice_index_or values k None

-- the list for a node, empty where it has none
abbrev pub list_at : {A : Type 0} → List (Vec ℕ A) → ℕ → List ℕ
list_at rows k = option_map_or (λ v. v.items) (slice_get rows k) []

-- no node stands in a list twice
abbrev pub IsSingle : List ℕ → Type 0
IsSingle [] = Unit {0}
IsSingle (k ∷ ks) = (is_in nat_eq k ks ≡ false) × IsSingle ks

-- whether a node is marked
abbrev pub is_marked : List Bool → ℕ → Bool
is_marked marks k = slice_index_or marks k false
