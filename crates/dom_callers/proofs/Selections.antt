-- The range that is made at the start of a node, and then ends behind all that is in the node.
use Rattle.std.proofs.Common.{◌≡◌, inl, inr, ℕ, true, List, [], ◌∷◌, ◌++◌, length, Some, refl, arith, nat_lt, option_map, slice_set}
use Rattle.std.specs.Prelude.{slice_get}
use Rattle.std.proofs.lemmas.Bool.{cases_Bool, false_from_ne_true, ltb-true}
use Rattle.std.proofs.lemmas.List.{set_at}
use Rattle.dom_base.specs.declared.Owner.{Owner}
use Rattle.dom_base.specs.declared.NodeName.{NodeName}
use Rattle.dom_model.specs.Names.{owner_eq}
use Rattle.dom_model.specs.Place.{is_before, same_root}
use Rattle.dom_model.specs.Ranges.{at, from_to}
use Rattle.dom_tree.specs.Definitions.{NamedTrees, name_at}
use Rattle.dom_ranges.specs.Definitions.{end_set, RangeLists, ranges_of, range_in, with_ranges}

-- the item at the end
last-item : {X : Type 0} (xs : List X) (x : X) → slice_get (xs ++ x ∷ []) (length xs) ≡ Some x
last-item [] x = refl
last-item (z ∷ xs) x = last-item xs x

-- what is known of the points of one node
pub record InOneNode (f : NamedTrees) : Type 0 where
  pub one_tree : (x : NodeName) → same_root f.trees x x ≡ true
  pub before : (x : NodeName) (i j : ℕ) → is_before f.trees (at x i) (at x j) ≡ nat_lt i j

-- an end behind the start, in the same node, leaves the start
end-behind : {f : NamedTrees} → InOneNode f → (node n : ℕ) → end_set f (at node n) (from_to (at node 0) (at node 0)) ≡ from_to (at node 0) (at node n)
end-behind {f} one node n =
    let x = name_at f.names node in
    rw (one.one_tree x, one.before x n 0, false_from_ne_true (nat_lt n 0) (λ e. omega (arith, ltb-true n 0 e))) refl

module _ (owner-same : (o : Owner) → owner_eq o o ≡ true) (t mid : RangeLists) (owner : Owner) (node : ℕ)
    (made : (o : Owner) → ranges_of mid o ≡ with_ranges t owner (ranges_of t owner ++ Some (from_to (at node 0) (at node 0)) ∷ []) o) where
  -- the owner's ranges, with the one that was made
  pub ranges-made : ranges_of mid owner ≡ ranges_of t owner ++ Some (from_to (at node 0) (at node 0)) ∷ []
  ranges-made = rw (owner-same owner) at (made owner)

  -- the range that was made
  pub range-made : range_in (ranges_of mid owner) (length (ranges_of t owner)) ≡ Some (from_to (at node 0) (at node 0))
  range-made = rw (ranges-made, last-item (ranges_of t owner) (Some (from_to (at node 0) (at node 0)))) refl

  -- the owner's ranges, with the one that was made and then ended
  ranges-ended : {f : NamedTrees} → InOneNode f → (n : ℕ) →
      slice_set (ranges_of mid owner) (length (ranges_of t owner))
      (option_map (end_set f (at node n)) (range_in (ranges_of mid owner) (length (ranges_of t owner)))) ≡ ranges_of t owner ++
      Some (from_to (at node 0) (at node n)) ∷ []
  ranges-ended one n =
      rw (range-made, end-behind one node n, ranges-made)
      (set_at (ranges_of t owner) (Some (from_to (at node 0) (at node 0))) [] (Some (from_to (at node 0) (at node n)))
      (length (ranges_of t owner)) refl)

  -- each owner's ranges
  pub all-ended : {f : NamedTrees} → InOneNode f → (n : ℕ) (o : Owner) →
      with_ranges mid owner (slice_set (ranges_of mid owner) (length (ranges_of t owner))
      (option_map (end_set f (at node n)) (range_in (ranges_of mid owner) (length (ranges_of t owner))))) o ≡ with_ranges t owner
      (ranges_of t owner ++ Some (from_to (at node 0) (at node n)) ∷ []) o
  all-ended one n o = elim (cases_Bool (owner_eq owner o)) [
    | inl e ↦ rw e (ranges-ended one n)
    | inr e ↦ rw e (rw e at (made o))
  ]
