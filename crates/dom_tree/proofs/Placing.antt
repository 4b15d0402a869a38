-- The tests for an insertion and a replacement.
use Rattle.dom_base.proofs.Std.{◌≡◌, ◌≢◌, ◌⊎◌, inl, inr, ℕ, ◌<◌, ◌≤◌, Bool, true, false, not, ◌&&◌, ◌||◌, eqb, List, [], ◌∷◌, length, Option, Some, None, refl}
use Rattle.dom_base.proofs.Std.{sym, ap, subst, ◌∙◌, arith, nat_lt, nat_eq, option_map, option_map_or, option_eq, lt-ltb, le-ltb, eq-eqb, ne_eqb, eqb_tells}
use Rattle.node_arena.specs.contracts.key.KeyPartialEq.TheImpl as KeyImpl
use Rattle.dom_model.proofs.Model.{Owner, name_eq, Node, kind_of, is_fragment, child_nodes, without_given, element_count, has_text, has_parent, breaks_document}
use Rattle.node_arena.specs.Nodes.{parent_of}
use Rattle.dom_tree.specs.Definitions.{Stored, NamedTrees, IsKept, stored_names, nodes_of, name_at}
use Rattle.dom_tree.proofs.Rows.{name_of_key}
use Rattle.dom_tree.proofs.Reading.{name_of_key-eq}
use Rattle.dom_tree.proofs.Kept.{seen, IsWhole-kept, name_at-same, within, shows_parent}

-- where none is given, no node goes
pub without_given-none : (ns : List Node) → without_given None ns ≡ ns
without_given-none [] = refl
without_given-none (n ∷ ns) = ap (λ rest. n ∷ rest) (without_given-none ns)

-- a fragment without a Text that goes among the children of a document, by the number n of its elements
module _ (f : NamedTrees) (parent node : ℕ) (replaced : Option ℕ) (n : ℕ) (fragment : true ≡ is_fragment (kind_of f.trees (name_at f.names node)))
    (no_text : false ≡ has_text (child_nodes f.trees (name_at f.names node)))
    (counted : n ≡ element_count (without_given None (child_nodes f.trees (name_at f.names node)))) where
  abbrev others : List Node
  others = without_given (option_map (name_at f.names) replaced) (child_nodes f.trees (name_at f.names parent))

  abbrev breaks : Bool
  breaks = breaks_document f.trees (name_at f.names node) others

  by_count : breaks ≡ (nat_lt 1 n || (nat_eq n 1 && nat_lt 0 (element_count others)))
  by_count =
      let inside = child_nodes f.trees (name_at f.names node) in
      let count : element_count inside ≡ n = ap element_count (sym (without_given-none inside)) ∙ sym counted in
      rw (← fragment, ← no_text, count) refl

  few : n ≤ 1 → breaks ≡ (nat_eq n 1 && nat_lt 0 (element_count others))
  few at_most = by_count ∙ ap (λ b. b || (nat_eq n 1 && nat_lt 0 (element_count others))) (le-ltb 1 n at_most)

  pub breaks-many : 1 < n → nat_lt 1 n ≡ breaks
  breaks-many many = let is = lt-ltb 1 n many in is ∙ sym (by_count ∙ ap (λ b. b || (nat_eq n 1 && nat_lt 0 (element_count others))) is)

  pub breaks-one : n ≤ 1 → n ≡ 1 → nat_lt 0 (element_count others) ≡ breaks
  breaks-one at_most one = sym (few at_most ∙ ap (λ b. b && nat_lt 0 (element_count others)) (eq-eqb n 1 one))

  pub breaks-no : n ≤ 1 → (n ≡ 1 → ⊥) → nat_eq n 1 ≡ breaks
  breaks-no at_most other = let is = ne_eqb n 1 other in is ∙ sym (few at_most ∙ ap (λ b. b && nat_lt 0 (element_count others)) is)

module _ {f : NamedTrees} {ps : List Stored} {lists : List (List ℕ)} {keys : Owner → List ℕ} (is : seen ps lists ≡ f) (kept : IsKept ps lists keys)
    (p : ℕ) where
  -- names tell keys apart, as a caller sees them
  pub names_tell : (q : ℕ) → p < length f.names → q < length f.names → name_eq (name_at f.names p) (name_at f.names q) ≡ eqb q p
  names_tell q at_p at_q =
      let inside_p = within is kept p at_p in
      let inside_q = within is kept q at_q in
      subst (λ (g : NamedTrees). name_eq (name_at g.names p) (name_at g.names q) ≡ eqb q p) is
      (ap (λ y. name_eq y (name_at (stored_names ps) q)) (name_at-same (stored_names ps) ps p)
      ∙ (ap (name_eq (name_of_key (nodes_of ps) p)) (name_at-same (stored_names ps) ps q)
      ∙ (name_of_key-eq (IsWhole-kept kept) p q (omega (arith, kept.paired)) (omega (arith, kept.paired)) ∙ turned (eqb_tells p q))))
    where
      turned : ((eqb p q ≡ true) × (p ≡ q)) ⊎ ((eqb p q ≡ false) × (p ≢ q)) → eqb p q ≡ eqb q p
      turned (inl h) = h.0 ∙ sym (eq-eqb q p (sym h.1))
      turned (inr h) = h.0 ∙ sym (ne_eqb q p (λ e. h.1 (sym e)))

  -- whether a node has another parent, as the code tests it
  pub lost_test : (x : ℕ) (r : Option ℕ) → p < length f.names → x < length f.names → r ≡ parent_of lists x → ((q : ℕ) → r ≡ Some q → q < length f.names)
      → not (option_eq KeyImpl.ghosts.eq r (Some p)) ≡ not (has_parent f.trees (name_at f.names p) (name_at f.names x))
  lost_test x r at_p at_x found inside =
      ap not (by r inside ∙ ap (λ o. option_map_or (name_eq (name_at f.names p)) o false)
      (shows_parent is kept x at_x found))
    where
      by : (o : Option ℕ) → ((q : ℕ) → o ≡ Some q → q < length f.names) →
          option_eq KeyImpl.ghosts.eq o (Some p) ≡ option_map_or (name_eq (name_at f.names p)) (option_map (name_at f.names) o) false
      by None inside' = refl
      by (Some q) inside' = sym (names_tell q at_p (inside' q refl))
