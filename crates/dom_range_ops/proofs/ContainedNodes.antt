-- What a range contains, by how its nodes stand above and below one another.
use Rattle.dom_range_ops.proofs.Cited.{◌≡◌, [], and_parts, arith, Bool, cases_Bool, cond-false, false, filter, inl, inr, le-ltb, length, lt-ltb, None, not}
use Rattle.dom_range_ops.proofs.Cited.{option_map_or, refl, Some, subst, suc, sym, true, true≢false, ◌&&◌, ◌∙◌, ◌∷◌, ◌≤◌, at, before-turned, boundary_place}
use Rattle.dom_range_ops.proofs.Cited.{children_of, has_data, inclusive_ancestors, inclusive_descendants, is_before, is_contained, is_inclusive_ancestor}
use Rattle.dom_range_ops.proofs.Cited.{kind_of, length_of, name_eq-true, node_in, parent_of, Range, root_of, same_root, subtree, Trees, above-from_below}
use Rattle.dom_range_ops.proofs.Cited.{above-parent, above-present, above-root, all_single, below, below-from_above, filter-none, Has, Has-above, Has-names}
use Rattle.dom_range_ops.proofs.Cited.{Has-subtree, here, In, In-from, IsWithin, Once, parent-of_child, Single, Single-apart, within-itself, nodes_around}
use Rattle.dom_range_ops.proofs.Cited.{before-up, ap, false_from_ne_true, before-less, In-names, Option, NodeName}
use Rattle.dom_range_ops.proofs.OneTree.{HasOneTree, root-above, root-path}
use Rattle.dom_range_ops.proofs.OwnTexts.{around-root}
use Rattle.dom_range_ops.proofs.PieceLevels.{above-start, above-end, descend}

-- What is asked of a range: its ends are nodes of one tree, the second within its node, and no Text and no Comment of the tree has
-- children.
pub record IsRange (ts : Trees) (r : Range NodeName) : Type 0 where
  pub once : Once ts
  pub start : Has ts r.start.node
  pub end : Has ts r.end.node
  pub one_root : same_root ts r.start.node r.end.node ≡ true
  pub fits : r.end.offset ≤ length_of ts r.end.node
  pub leaves : (x : NodeName) → In x (nodes_around ts r) → has_data (kind_of ts x) ≡ true → children_of ts x ≡ []

-- the parent of a node, if there is one, is not contained
abbrev pub IsClear : Trees → Range NodeName → NodeName → Type 0
IsClear ts r x = (p : NodeName) → parent_of ts x ≡ Some p → is_contained ts r p ≡ false

-- whether a node is contained and its parent is not
abbrev pub is_outermost : Trees → Range NodeName → NodeName → Bool
is_outermost ts r x = is_contained ts r x && not (option_map_or (is_contained ts r) (parent_of ts x) false)

-- nothing is both, where the second is not
and-no : (b : Bool) → b && false ≡ false
and-no true = refl
and-no false = refl

module _ (ts : Trees) (r : Range NodeName) where
  -- what is not behind the start is not contained
  pub not-start : (z : NodeName) → is_before ts r.start (at z 0) ≡ false → is_contained ts r z ≡ false
  not-start z e = ap (λ b. b && is_before ts (at z (length_of ts z)) r.end) e

  -- nor is what is not in front of the end
  pub not-end : (z : NodeName) → is_before ts (at z (length_of ts z)) r.end ≡ false → is_contained ts r z ≡ false
  not-end z e = ap (λ b. is_before ts r.start (at z 0) && b) e ∙ and-no (is_before ts r.start (at z 0))

module _ (ts : Trees) (r : Range NodeName) (is : IsRange ts r) where
  -- ---- the nodes of the range's tree

  -- its root
  abbrev pub root : NodeName
  root = root_of ts r.start.node

  -- its ends are nodes of it
  abbrev pub ends : HasOneTree ts r
  ends = record { once = is.once; start = is.start; end = is.end; one_root = is.one_root }

  -- what has its root is of it
  around : (x : NodeName) → Has ts x → root_of ts x ≡ root → In x (nodes_around ts r)
  around x h e = In-names _ x (below-from_above ts root x is.once h (subst (λ a. In a (inclusive_ancestors ts x)) e (root-above ts x h)))

  -- so are both ends
  pub start-in : In r.start.node (nodes_around ts r)
  start-in = around r.start.node is.start refl

  pub end-in : In r.end.node (nodes_around ts r)
  end-in = around r.end.node is.end (sym (name_eq-true (root_of ts r.start.node) (root_of ts r.end.node) is.one_root))

  -- and what stands above one of its nodes, which is in that one's tree
  pub above-in : (x a : NodeName) → In x (nodes_around ts r) → In a (inclusive_ancestors ts x) → In a (nodes_around ts r) × In x (inclusive_descendants ts a)
  above-in x a i j =
      let h = around-root ts r ends x i in
      (around a (Has-above ts a x is.once h.0 j) (root-path ts a x is.once h.0 j ∙ h.1), In-names _ x (below-from_above ts a x is.once h.0 j))

  -- a node of it stands in the trees, within the root's tree
  pub stands : (x : NodeName) → In x (nodes_around ts r) → Has ts x
  stands x i = (around-root ts r ends x i).0

  pub member-within : (x : NodeName) → In x (nodes_around ts r) → IsWithin ts root x
  member-within x i = record {
    once = is.once;
    top_stands = Has-above ts root r.start.node is.once is.start (root-above ts r.start.node is.start);
    stands = Has-names _ x i;
  }

  -- a node of the tree of one of its nodes is one
  pub below-in : (y z : NodeName) → In y (nodes_around ts r) → In z (inclusive_descendants ts y) → In z (nodes_around ts r)
  below-in y z i j =
      let h = around-root ts r ends y i in
      let inside = Has-names _ z j in
      let at_z = Has-subtree ts y z is.once inside in
      around z at_z (sym (root-path ts y z is.once at_z (above-from_below ts y z is.once h.0 inside)) ∙ h.1)

  -- a child is in the tree of its parent, one deeper
  pub kid-in : (y z : NodeName) → Has ts y → In z (children_of ts y) → In z (inclusive_descendants ts y) × (parent_of ts z ≡ Some y) ×
      (length (inclusive_ancestors ts z) ≡ suc (length (inclusive_ancestors ts y)))
  kid-in y z h i =
      let up = parent-of_child ts y z is.once h i in
      let path = above-parent ts z y is.once up.1 up.0 in
      let own = subst (In y) (sym (above-present ts y h).1) (inl refl) in (
        In-names (subtree ts y) z (below-from_above ts y z is.once up.1 (subst (In y) (sym path.0) (inr own))),
        up.0,
        ap (length {A = NodeName}) path.0,
      )

  -- ---- what is contained

  -- what is above the start is not
  pub start-above-out : (a : NodeName) → In a (inclusive_ancestors ts r.start.node) → is_contained ts r a ≡ false
  start-above-out a i =
      not-start ts r a (above-start ts is.once r.start a (Has-above ts a r.start.node is.once is.start i) (above-in r.start.node a start-in i).1)

  -- nor is what is above the end
  pub end-above-out : (x : NodeName) → In x (nodes_around ts r) → is_inclusive_ancestor ts x r.end.node ≡ true → is_contained ts r x ≡ false
  end-above-out x i above =
      not-end ts r x (above-end ts is.once r.end is.fits x (is.leaves x i) (stands x i)
      (above-in r.end.node x end-in (In-from x (inclusive_ancestors ts r.end.node) above)).1)

  -- all that is below a contained node is
  pub contained-below : (x y : NodeName) → In x (nodes_around ts r) → is_contained ts r x ≡ true → In y (inclusive_descendants ts x) →
      is_contained ts r y ≡ true
  contained-below x y i e j = elim (descend ts is.once x y (stands x i) j) [
    | inl same ↦ ap (is_contained ts r) same ∙ e
    | inr u ↦
        let few = u.fits in
        let size : length_of ts x ≡ length (children_of ts x) = elim (cases_Bool (has_data (kind_of ts x))) [
          | inl k ↦ let none = ap (length {A = NodeName}) (is.leaves x i k) in absurd (omega (arith, none, few))
          | inr k ↦ cond-false (has_data (kind_of ts x)) (length (node_in ts x).text) (length (children_of ts x)) k
        ] in
        let parts = and_parts (is_before ts r.start (at x 0)) (is_before ts (at x (length_of ts x)) r.end) e in
        let first : is_before ts r.start (at y 0) ≡ true =
        before-less (boundary_place ts r.start) (boundary_place ts (at x 0)) (boundary_place ts (at y 0)) parts.0
        (before-up ts y x 0 0 u.child u.rest u.place ∙ le-ltb u.child 0 (omega arith)) in
        let second : is_before ts (at y (length_of ts y)) r.end ≡ true =
        before-less (boundary_place ts (at y (length_of ts y))) (boundary_place ts (at x (length_of ts x))) (boundary_place ts r.end)
        (before-up ts y x (length_of ts y) (length_of ts x) u.child u.rest u.place ∙ lt-ltb u.child (length_of ts x) (omega (arith, few, size)))
        (before-turned (boundary_place ts (at x (length_of ts x))) (boundary_place ts r.end) parts.1) in
        ap (λ b. b && is_before ts (at y (length_of ts y)) r.end) first ∙ second
  ]

  -- ---- the outermost contained nodes

  pub outermost-not : (x : NodeName) → is_contained ts r x ≡ false → is_outermost ts r x ≡ false
  outermost-not x e = ap (λ b. b && not (option_map_or (is_contained ts r) (parent_of ts x) false)) e

  pub outermost-yes : (x : NodeName) → is_contained ts r x ≡ true → IsClear ts r x → is_outermost ts r x ≡ true
  outermost-yes x e clear = ap (λ b. b && not (option_map_or (is_contained ts r) (parent_of ts x) false)) e ∙ by (parent_of ts x) refl
    where
      by : (o : Option NodeName) → parent_of ts x ≡ o → not (option_map_or (is_contained ts r) (parent_of ts x) false) ≡ true
      by None is = ap (λ (o : Option NodeName). not (option_map_or (is_contained ts r) o false)) is
      by (Some p) is = ap (λ (o : Option NodeName). not (option_map_or (is_contained ts r) o false)) is ∙ ap not (clear p is)

  -- what is below a contained node is not outermost
  pub none-below : (x : NodeName) → In x (nodes_around ts r) → is_contained ts r x ≡ true → filter (is_outermost ts r) (below ts x) ≡ []
  none-below x i e = filter-none (is_outermost ts r) (below ts x) (λ y j. off y j (parent_of ts y) refl)
    where
      w : IsWithin ts root x
      w = member-within x i

      inside : (y : NodeName) → In y (below ts x) → In y (inclusive_descendants ts x)
      inside y j = subst (In y) (sym (here ts root x w)) (inr j)

      other : (y : NodeName) → In y (below ts x) → x ≡ y → ⊥
      other y j same =
          Single-apart x (x ∷ []) (below ts x) (subst Single (here ts root x w) (all_single ts x x (within-itself ts root x w))) (inl refl)
          (subst (λ z. In z (below ts x)) (sym same) j)

      up : (y : NodeName) → In y (below ts x) → In x (inclusive_ancestors ts y)
      up y j = above-from_below ts x y is.once (stands x i) (Has-names _ y (inside y j))

      off : (y : NodeName) → In y (below ts x) → (o : Option NodeName) → parent_of ts y ≡ o → is_outermost ts r y ≡ false
      off y j None none =
          let at_y = stands y (below-in x y i (inside y j)) in
          elim (subst (In x) (above-root ts y at_y none) (up y j)) [ inl same ↦ absurd (other y j same) | inr k ↦ absurd k ]
      off y j (Some p) some =
          let path = above-parent ts y p is.once (stands y (below-in x y i (inside y j))) some in
          let k : In x (inclusive_ancestors ts p) = elim (subst (In x) path.0 (up y j)) [ inl same ↦ absurd (other y j same) | inr k ↦ k ] in
          let yes = contained-below x p i e (In-names _ p (below-from_above ts x p is.once path.1 k)) in
          false_from_ne_true (is_outermost ts r y)
          (λ t. true≢false (sym (and_parts (is_contained ts r y) (not (option_map_or (is_contained ts r) (parent_of ts y) false)) t).1 ∙
          (ap (λ (o : Option NodeName). not (option_map_or (is_contained ts r) o false)) some ∙ ap not yes)))
