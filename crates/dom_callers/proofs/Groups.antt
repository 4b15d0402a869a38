-- The lists of an arena in which a new node takes the place of another one.
use Rattle.std.proofs.Common.{◌≡◌, ◌≢◌, ℕ, zero, suc, List, [], ◌∷◌, ◌++◌, length, map, set, Some, None, refl, ◌∙◌}
use Rattle.std.proofs.lemmas.List.{get_or-set_other}
use Rattle.node_arena.specs.Nodes.{children_of, parent_of, put_before, without}
use Rattle.dom_callers.specs.Fronts.{grouped}

-- a node without children has none once another node is taken out
childless-map : (lists : List (List ℕ)) (k n : ℕ) → children_of lists n ≡ [] → children_of (map (without k) lists) n ≡ []
childless-map [] k n none = refl
childless-map (xs ∷ lists) k zero none = rw none refl
childless-map (xs ∷ lists) k (suc n) none = childless-map lists k n none

-- the lists with the new node n, which has no children
pub record Added (lists more : List (List ℕ)) (n : ℕ) : Type 0 where
  pub is : more ≡ lists ++ [] ∷ []
  pub last : n ≡ length lists
  pub childless : children_of more n ≡ []

module _ {lists more : List (List ℕ)} {n : ℕ} (added : Added lists more n) where
  -- where k has a parent
  pub grouped_child : (k p : ℕ) → parent_of more k ≡ Some p → n ≢ p →
      let parted = map (without k) (set more p (put_before (children_of more p) n k)) in
      set parted n (children_of parted n ++ k ∷ []) ≡ grouped lists k
  grouped_child k p up other =
      let xs = put_before (children_of more p) n k in
      let none = childless-map (set more p xs) k n (get_or-set_other more p n xs [] other ∙ added.childless) in
      rw (none, ← added.is, up, ← added.last)

  -- where it has none
  pub grouped_root : (k : ℕ) → parent_of more k ≡ None → set more n (k ∷ []) ≡ grouped lists k
  grouped_root k root = rw (← added.is, root, ← added.last)
