-- Lists of children in which nodes have gone to other places.
use Rattle.std.specs.Prelude.{ℕ, List, [], ◌∷◌, ◌++◌, length, map, slice_set}
use Rattle.std.specs.Option.{option_map_or}
use Rattle.node_arena.specs.Nodes.{children_of, parent_of, put_before, without}

-- the lists with k before all its siblings; where k stands in no list, they are the same (own rule)
abbrev pub in_front : List (List ℕ) → ℕ → List (List ℕ)
in_front lists k = option_map_or (λ p. slice_set (map (without k) lists) p (k ∷ without k (children_of lists p))) (parent_of lists k) lists

-- the lists with k behind the other children of p, and in no other list (own rule)
abbrev pub moved_below : List (List ℕ) → ℕ → ℕ → List (List ℕ)
moved_below lists k p = slice_set (map (without k) lists) p (without k (children_of lists p) ++ k ∷ [])

-- the lists with one more, whose node stands in the place of k, and k in none (own rule)
abbrev pub with_group : List (List ℕ) → ℕ → List (List ℕ)
with_group lists k =
    let more = lists ++ [] ∷ [] in
    option_map_or (λ p. map (without k) (slice_set more p (put_before (children_of more p) (length lists) k))) (parent_of more k) more

-- the lists with a new node in the place of k, and k its child (own rule)
abbrev pub grouped : List (List ℕ) → ℕ → List (List ℕ)
grouped lists k = slice_set (with_group lists k) (length lists) (k ∷ [])
