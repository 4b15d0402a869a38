-- The nodes in the tree of a node are those that it is above.
use Rattle.dom_base.proofs.Std.{◌≡◌, inl, inr, ℕ, zero, suc, ◌<◌, ◌≤◌, true, false, eqb, List, [], ◌∷◌, length, Option, Some, None, sym, ap, subst, ◌∙◌, arith}
use Rattle.dom_base.proofs.Std.{true≢false, slice_get, option_map, ForSome, last_or, eqb-true, or_cases, or_left, or_right, cases_Bool, false_from_ne_true}
use Rattle.dom_base.proofs.Std.{both_ways, same_Some, none-some, nil_from_length}
use Rattle.dom_model.proofs.Model.{Owner, NodeName, name_eq, is_in, first_of, last_of, items_after, items_before, Trees, none, tree, Node, subtree}
use Rattle.dom_model.proofs.Model.{inclusive_descendants, is_inclusive_ancestor, name_eq-same}
use Rattle.node_arena.specs.Nodes.{children_of, contains, parent_of, ancestors_of}
use Rattle.node_arena.proofs.Forests.{cases_Option, contains-parent, parent_within, ancestors_of-child, ancestors_of-root}
use Rattle.node_arena.proofs.Lists.{contains-head}
use Rattle.dom_tree.specs.Definitions.{Stored, trees_of, NamedTrees, IsKept, stored_names, name_at}
use Rattle.dom_tree.proofs.Rows.{Stands, same_name, name_of_key}
use Rattle.dom_tree.proofs.Reach.{reaches, has_node-reaches, reaches-root, reaches-child}
use Rattle.dom_tree.proofs.Changes.{IsWhole, node_here, subtree_here, above_up}
use Rattle.dom_tree.proofs.Kept.{seen, IsWhole-kept, name_at-same, above-at, within, within_names}

-- a root above a node
HasRoot : List (List ℕ) → List ℕ → ℕ → Type 0
HasRoot lists ks y = (k : ℕ) × (contains ks k ≡ true) × (contains (y ∷ ancestors_of lists y) k ≡ true)

module _ {nodes : List Node} {lists : List (List ℕ)} (whole : IsWhole nodes lists) where
  -- what is in trees is below one of their roots
  has_root : (y : ℕ) {m : Node} → slice_get nodes y ≡ Some m → (ts : Trees) (ks : List ℕ) → Stands nodes lists ts ks → reaches ts m.name ≡ true →
      HasRoot lists ks y
  unfolding HasRoot
  has_root y at none ks s found = absurd (true≢false (sym found))
  has_root y at (tree n c r) [] s found = absurd s
  has_root y {m = m} at (tree n c r) (k ∷ ks) s found = elim (or_cases (name_eq n.name m.name) _ found) [
    | inl h ↦
        let is = eqb-true k y (sym (same_name whole.named k y s.0 at) ∙ h) in
        (k, contains-head k ks, ap (contains (y ∷ ancestors_of lists y)) is ∙ contains-head y (ancestors_of lists y))
    | inr h ↦ elim (or_cases (reaches c m.name) (reaches r m.name) h) [
      | inl i ↦
          let below = has_root y at c (children_of lists k) s.1 i in
          (k, contains-head k ks, above_up whole.forest y below.0 k below.1 below.2)
      | inr i ↦
          let later = has_root y at r ks s.2 i in
          (later.0, or_right (eqb k later.0) _ later.1, later.2)
    ]
  ]

  module _ (top : ℕ) (node : top < length lists) where
    -- what is below a node is in its tree
    reaches-below : (ts : Trees) → Stands nodes lists ts (top ∷ []) → (y : ℕ) → y < length lists → contains (y ∷ ancestors_of lists y) top ≡ true →
        reaches ts (name_of_key nodes y) ≡ true
    reaches-below ts stands y at_y above = elim (or_cases (eqb y top) _ above) [
      | inl h ↦ subst (λ (k : ℕ). reaches ts (name_of_key nodes k) ≡ true) (sym (eqb-true y top h)) reached_top
      | inr h ↦ up (length (ancestors_of lists y)) y at_y (omega arith) h
    ]
      where
        reached_top : reaches ts (name_of_key nodes top) ≡ true
        reached_top = reaches-root nodes lists whole.named top (node_here nodes lists whole top node) ts (top ∷ []) stands (contains-head top [])

        up : (d z : ℕ) → z < length lists → length (ancestors_of lists z) ≤ d → contains (ancestors_of lists z) top ≡ true →
            reaches ts (name_of_key nodes z) ≡ true
        up zero z at_z deep h = absurd (true≢false (sym h ∙ ap (λ ys. contains ys top) (nil_from_length (ancestors_of lists z) (omega arith))))
        up (suc d) z at_z deep h = elim (cases_Option (parent_of lists z)) [
          | inl e ↦ absurd (true≢false (sym h ∙ ap (λ ys. contains ys top) (ancestors_of-root lists z e)))
          | inr w ↦
              let line = ancestors_of-child lists whole.forest z w.0 w.1 in
              let child = contains-parent lists z w.0 w.1 in
              let at_p = parent_within lists w.0 z child in
              reaches-child nodes lists whole.named (record {
                at_parent = node_here nodes lists whole w.0 at_p;
                at_child = node_here nodes lists whole z at_z;
                child = child;
              }) ts (top ∷ []) stands
              (elim (or_cases (eqb w.0 top) _ (sym (ap (λ ys. contains ys top) line) ∙ h)) [
                | inl i ↦ subst (λ (k : ℕ). reaches ts (name_of_key nodes k) ≡ true) (sym (eqb-true w.0 top i)) reached_top
                | inr i ↦ up d w.0 at_p (omega (arith, ap (length {A = ℕ}) line)) i
              ])
        ]

    -- so the tree of a node has the nodes that it is above
    reaches-alone : (y : ℕ) → y < length lists
        → reaches (subtree (trees_of nodes lists) (name_of_key nodes top)) (name_of_key nodes y) ≡ contains (y ∷ ancestors_of lists y) top
    unfolding HasRoot
    reaches-alone y at_y = elim (cases_Bool (contains (y ∷ ancestors_of lists y) top)) [
      | inl e ↦ reaches-below alone stands y at_y e ∙ sym e
      | inr e ↦ false_from_ne_true _ (λ found. both_ways _ e
          (below (has_root y (node_here nodes lists whole y at_y) alone (top ∷ []) stands found))) ∙ sym e
    ]
      where
        alone : Trees
        alone = subtree (trees_of nodes lists) (name_of_key nodes top)

        stands : Stands nodes lists alone (top ∷ [])
        stands = subtree_here nodes lists whole top node

        below : HasRoot lists (top ∷ []) y → contains (y ∷ ancestors_of lists y) top ≡ true
        below h = elim (or_cases (eqb top h.0) false h.1) [
          | inl e ↦ ap (contains (y ∷ ancestors_of lists y)) (eqb-true top h.0 e) ∙ h.2
          | inr e ↦ absurd (true≢false (sym e))
        ]

    -- the nodes of a tree are those that have its root among their inclusive ancestors, by names
    below-at : (y : ℕ) → y < length lists
        → is_in name_eq (name_of_key nodes y) (inclusive_descendants (trees_of nodes lists) (name_of_key nodes top)) ≡ is_inclusive_ancestor
        (trees_of nodes lists) (name_of_key nodes top) (name_of_key nodes y)
    below-at y at_y =
        has_node-reaches (subtree (trees_of nodes lists) (name_of_key nodes top)) (name_of_key nodes y)
        ∙ (reaches-alone y at_y ∙ sym (above-at whole top y node at_y))

-- ---- the answers

-- the nodes of a tree by their inclusive ancestors, as a caller sees it
pub shows_below : {f : NamedTrees} {ps : List Stored} {lists : List (List ℕ)} {keys : Owner → List ℕ} → seen ps lists ≡ f → IsKept ps lists keys →
    (j k : ℕ) → j < length f.names → k < length f.names
    → is_in name_eq (name_at f.names k) (inclusive_descendants f.trees (name_at f.names j)) ≡ is_inclusive_ancestor f.trees (name_at f.names j)
    (name_at f.names k)
shows_below {f = f} {ps = ps} {lists = lists} {keys = keys} is kept j k at_j at_k =
    let inside_j = within is kept j at_j in
    let inside_k = within is kept k at_k in
    let paired = kept.paired in
    subst (λ (g : NamedTrees). is_in name_eq (name_at g.names k) (inclusive_descendants g.trees (name_at g.names j)) ≡ is_inclusive_ancestor
    g.trees (name_at g.names j) (name_at g.names k)) is
    (rw (name_at-same (stored_names ps) ps j, name_at-same (stored_names ps) ps k)
    (below-at (IsWhole-kept kept) j (omega arith) k (omega arith)))

-- the first name behind another one is in the list
first_in : (x z : NodeName) (xs : List NodeName) → first_of (items_after name_eq x xs) ≡ Some z → is_in name_eq z xs ≡ true
first_in x z [] e = absurd (none-some z e)
first_in x z (y ∷ ys) e = elim (cases_Bool (name_eq x y)) [
  | inl h ↦ or_right (name_eq z y) _ (here ys (rw h at e))
  | inr h ↦ or_right (name_eq z y) _ (first_in x z ys (rw h at e))
]
  where
    here : (ys : List NodeName) → first_of ys ≡ Some z → is_in name_eq z ys ≡ true
    here [] e = absurd (none-some z e)
    here (w ∷ ws) e = or_left (name_eq z w) _ (ap (name_eq z) (same_Some w z e) ∙ name_eq-same z)

-- the last name before another one is in the list
last_in : (x z : NodeName) (xs : List NodeName) → last_of (items_before name_eq x xs) ≡ Some z → is_in name_eq z xs ≡ true
last_in x z xs e = from (items_before name_eq x xs) None e (λ y none. absurd (none-some y none)) (λ y found. before xs y found)
  where
    before : (ys : List NodeName) (y : NodeName) → is_in name_eq y (items_before name_eq x ys) ≡ true → is_in name_eq y ys ≡ true
    before [] y found = found
    before (w ∷ ws) y found = elim (cases_Bool (name_eq x w)) [
      | inl h ↦ absurd (true≢false (sym (rw h at found)))
      | inr h ↦ elim (or_cases (name_eq y w) _ (rw h at found)) [
        | inl i ↦ or_left (name_eq y w) _ i
        | inr i ↦ or_right (name_eq y w) _ (before ws y i)
      ]
    ]

    from : (ys : List NodeName) (q : Option NodeName) → last_or q ys ≡ Some z → ((y : NodeName) → q ≡ Some y → is_in name_eq y xs ≡ true)
        → ((y : NodeName) → is_in name_eq y ys ≡ true → is_in name_eq y xs ≡ true) → is_in name_eq z xs ≡ true
    from [] q e start all = start z e
    from (y ∷ ys) q e start all = from ys (Some y) e
        (λ w is. all w (or_left (name_eq w y) _ (ap (name_eq w) (same_Some y w is) ∙ name_eq-same w)))
        (λ w found. all w (or_right (name_eq w y) _ found))

module _ {f : NamedTrees} {ps : List Stored} {lists : List (List ℕ)} {keys : Owner → List ℕ} (is : seen ps lists ≡ f) (kept : IsKept ps lists keys)
    (top : ℕ) where
  -- what is found in the tree of a node is below it
  found_within : (r : Option ℕ) → top < length f.names → ForSome r (λ k. k < length ps)
      → ((z : NodeName) → option_map (name_at f.names) r ≡ Some z → is_in name_eq z (inclusive_descendants f.trees (name_at f.names top)) ≡ true)
      → ForSome r (λ k. is_inclusive_ancestor f.trees (name_at f.names top) (name_at f.names k) ≡ true)
  found_within r at_top nodes found = λ k e.
      sym (shows_below is kept top k at_top (within_names is kept k (nodes k e))) ∙ found (name_at f.names k) (ap (option_map (name_at f.names)) e)

  -- the node just behind one in the tree of another node is below that one
  pub following_within : (x : ℕ) (r : Option ℕ) → top < length f.names → ForSome r (λ k. k < length ps)
      → option_map (name_at f.names) r ≡ first_of (items_after name_eq (name_at f.names x) (inclusive_descendants f.trees (name_at f.names top)))
      → ForSome r (λ k. is_inclusive_ancestor f.trees (name_at f.names top) (name_at f.names k) ≡ true)
  following_within x r at_top nodes value = found_within r at_top nodes (λ z e. first_in (name_at f.names x) z _ (sym value ∙ e))

  -- and so is the node just before it
  pub preceding_within : (x y : ℕ) → top < length f.names → y < length ps
      → Some (name_at f.names y) ≡ last_of (items_before name_eq (name_at f.names x) (inclusive_descendants f.trees (name_at f.names top)))
      → ForSome (Some y) (λ k. is_inclusive_ancestor f.trees (name_at f.names top) (name_at f.names k) ≡ true)
  preceding_within x y at_top node value =
      found_within (Some y) at_top (λ k e. subst (λ (j : ℕ). j < length ps) (same_Some y k e) node)
      (λ z e. last_in (name_at f.names x) z _ (sym value ∙ e))
