-- What is taken of the child of the ends' lowest common ancestor in whose tree one of them is.
use Rattle.dom_range_ops.proofs.Cited.{◌≡◌, inl, inr, Bool, true, false, true≢false, not, ◌&&◌, List, [], ◌∷◌, ◌++◌, take, drop, Option, Some, None, refl, sym}
use Rattle.dom_range_ops.proofs.Cited.{ap, subst, ◌∙◌, option_map_or, cases_Bool, cond-true, cond-false, take-append-drop, same_Some, none-some, NodeName}
use Rattle.dom_range_ops.proofs.Cited.{pieces_along, tree_holding, name_eq, first_of, last_of, items_before, items_after, Boundary, Trees, none, tree, kind_of}
use Rattle.dom_range_ops.proofs.Cited.{has_data, names_of, roots, children_of, inclusive_ancestors, is_inclusive_ancestor, inclusive_descendants, siblings}
use Rattle.dom_range_ops.proofs.Cited.{next_sibling, subtree, trees_below, In-names, Has-names, child-of_parent, parent-of_child, Has-root, In, In-left}
use Rattle.dom_range_ops.proofs.Cited.{In-right, In-parts, is_in-from, no_last, same_or_not, split_at, once_apart, Has, subtree-here, subtree-beside}
use Rattle.dom_range_ops.proofs.Cited.{above-parent, above-present, above-from_below, below-from_above, Once, Item, items_of, first_behind, first_from}
use Rattle.dom_range_ops.proofs.Cited.{side_items}
use Rattle.dom_range_ops.proofs.PieceItems.{once-below, child-tree}
use Rattle.dom_range_ops.proofs.PieceLevels.{IsBehind, IsAhead, Level, behind-off, ahead-off, in-front, in-back, self-in}
use Rattle.dom_range_ops.proofs.PieceSides.{taken, from, to, side-is, last-member, tail-same}

-- lists that are the same begin with the same item
first-same : (x y : NodeName) (xs ys : List NodeName) → x ∷ xs ≡ y ∷ ys → x ≡ y
first-same x y xs ys e = cc

-- ---- the tree that holds one end alone

module _ (ts : Trees) (x other : NodeName) where
  abbrev holds : NodeName → Bool
  holds z = is_inclusive_ancestor ts z x && not (is_inclusive_ancestor ts z other)

  -- a node that is not above the end does not
  holds-not : (z : NodeName) → is_inclusive_ancestor ts z x ≡ false → holds z ≡ false
  holds-not z e = ap (λ t. t && not (is_inclusive_ancestor ts z other)) e

  -- there is none where no root is above the end
  none-held : (d : Trees) → ((z : NodeName) → In z (names_of (roots d)) → is_inclusive_ancestor ts z x ≡ false) → tree_holding ts x other d ≡ none
  none-held none off = refl
  none-held (tree n c rest) off =
      cond-false (holds n.name) (tree n c none) (tree_holding ts x other rest) (holds-not n.name (off n.name (inl refl))) ∙
      none-held rest (λ z i. off z (inr i))

  -- it is that of the one root that does
  one-held : (d : Trees) → Once d → (y : NodeName) → In y (names_of (roots d)) → holds y ≡ true →
      ((z : NodeName) → In z (names_of (roots d)) → holds z ≡ true → z ≡ y) → tree_holding ts x other d ≡ subtree d y
  one-held none once y i e only = absurd i
  one-held (tree n c rest) once y i e only = elim (cases_Bool (holds n.name)) [
    | inl t ↦ cond-true (holds n.name) (tree n c none) (tree_holding ts x other rest) t ∙ sym (subtree-here n c rest y (only n.name (inl refl) t))
    | inr t ↦
        cond-false (holds n.name) (tree n c none) (tree_holding ts x other rest) t
        ∙ elim i [
          | inl same ↦ absurd (true≢false (sym e ∙ (ap holds same ∙ t)))
          | inr j ↦ one-held rest (once_apart n c rest once).4 y j e (λ z k. only z (inr k)) ∙ sym (subtree-beside n c rest y once (Has-root rest y j))
        ]
  ]

-- ---- the path from an end to the common ancestor

module _ (ts : Trees) (once : Once ts) (c : NodeName) (rest : List NodeName) where
  -- the last node of the path is a child of that one
  last-child : (x : NodeName) (path : List NodeName) → Has ts x → inclusive_ancestors ts x ≡ (x ∷ path) ++ c ∷ rest → (y : NodeName) →
      last_of (x ∷ path) ≡ Some y → In y (children_of ts c)
  last-child x [] h e y last =
      subst (λ z. In z (children_of ts c)) (same_Some x y last) (child-of_parent ts x c once h (ap (λ xs. first_of (drop 1 xs)) e)).1
  last-child x (p ∷ path) h e y last =
      let up = above-parent ts x p once h (ap (λ xs. first_of (drop 1 xs)) e) in
      last-child p path up.1 (tail-same x (inclusive_ancestors ts p) ((p ∷ path) ++ c ∷ rest) (sym up.0 ∙ e)) y last

  -- an end is at the common ancestor, or in the tree of this child of it, from which a path leads down to it
  pub data Course (b : Boundary NodeName) (path : List NodeName) : Type 0 where
    at_top : path ≡ [] → b.node ≡ c → Course b path
    inside : (y : NodeName) (more : List NodeName) → path ≡ b.node ∷ more → last_of path ≡ Some y → In y (children_of ts c) →
        In b.node (inclusive_descendants ts y) → Course b path

  pub course : (b : Boundary NodeName) (path : List NodeName) → Has ts b.node → inclusive_ancestors ts b.node ≡ path ++ c ∷ rest → Course b path
  course b [] h e = at_top refl (first-same b.node c (above-present ts b.node h).0 rest (sym (above-present ts b.node h).1 ∙ e))
  course b (x ∷ path) h e =
      let same : b.node ≡ x = first-same b.node x (above-present ts b.node h).0 (path ++ c ∷ rest) (sym (above-present ts b.node h).1 ∙ e) in
      by (last_of (x ∷ path)) refl same
    where
      by : (o : Option NodeName) → last_of (x ∷ path) ≡ o → b.node ≡ x → Course b (x ∷ path)
      by None missing same = let off : x ∷ path ≡ [] = no_last (x ∷ path) missing in cc
      by (Some y) last same =
          let i : In y (inclusive_ancestors ts b.node) = subst (In y) (sym e) (In-left y (x ∷ path) (c ∷ rest) (last-member x y path last)) in
          inside y path (ap (λ z. z ∷ path) (sym same)) last (last-child x path (subst (Has ts) same h) (ap (inclusive_ancestors ts) (sym same) ∙ e) y last)
          (In-names (subtree ts y) b.node (below-from_above ts y b.node once h i))

  -- ---- how it parts the children

  abbrev kids : List NodeName
  kids = children_of ts c

  unfoldable pub level : (b : Boundary NodeName) (path : List NodeName) → Course b path → Level ts once c b
  level b path (at_top empty same) = record {
    front = take b.offset kids;
    middle = [];
    back = drop b.offset kids;
    kids = sym (take-append-drop b.offset kids);
    shape = inl record { same = same; none = refl; first = refl; later = refl };
  }
  level b path (inside y more whole last i below) =
      record {
        front = items_before name_eq y kids;
        middle = y ∷ [];
        back = items_after name_eq y kids;
        kids = split_at y kids i;
        shape = inr record { child = y; alone = refl; inside = below };
      }

  -- the child in the middle is the last of the path
  pub middle-last : (b : Boundary NodeName) (path : List NodeName) (w : Course b path) (z : NodeName) → In z (level b path w).middle →
      (last_of path ≡ Some z) × In b.node (inclusive_descendants ts z)
  unfolding level
  middle-last b path (at_top empty same) z i = absurd i
  middle-last b path (inside y more whole last among below) z (inl e) =
      (last ∙ ap Some (sym e), subst (λ x. In b.node (inclusive_descendants ts x)) (sym e) below)
  middle-last b path (inside y more whole last among below) z (inr i) = absurd i

  module _ (there : Has ts c) where
    -- a child is a node
    pub kid-stands : (z : NodeName) → In z kids → Has ts z
    kid-stands z i = (parent-of_child ts c z once there i).1

    -- one in front of the end, and one behind it
    module _ (b : Boundary NodeName) (l : Level ts once c b) (z : NodeName) where
      front-kid : In z l.front → In z kids
      front-kid i = subst (In z) (sym l.kids) (In-left z l.front (l.middle ++ l.back) i)

      pub middle-kid : In z l.middle → In z kids
      middle-kid i = subst (In z) (sym l.kids) (In-right z l.front (l.middle ++ l.back) (In-left z l.middle l.back i))

      pub back-kid : In z l.back → In z kids
      back-kid i = subst (In z) (sym l.kids) (In-right z l.front (l.middle ++ l.back) (In-right z l.middle l.back i))

      pub is-ahead : In z l.front → IsAhead ts once b z
      is-ahead i = in-front ts once c there b l z z i (self-in ts once z (kid-stands z (front-kid i)))

      pub is-behind : In z l.back → IsBehind ts once b z
      is-behind i = in-back ts once c there b l z z i (self-in ts once z (kid-stands z (back-kid i)))

    -- no other child than the last of the path is above the end
    pub kid-off : {b : Boundary NodeName} {path : List NodeName} → Course b path → Has ts b.node → {z : NodeName} → In z kids →
        (last_of path ≡ Some z → ⊥) → is_inclusive_ancestor ts z b.node ≡ false
    kid-off {b} {path} w h {z} i other =
        let l = level b path w in
        elim (In-parts z l.front (l.middle ++ l.back) (subst (In z) l.kids i)) [
          | inl j ↦ ahead-off ts once b z (kid-stands z i) h (is-ahead b l z j)
          | inr g ↦ elim (In-parts z l.middle l.back g) [
            | inl j ↦ absurd (other (middle-last b path w z j).0)
            | inr j ↦ behind-off ts once b z (kid-stands z i) h (is-behind b l z j)
          ]
        ]

    -- ---- the children from the end on

    -- the siblings of a child
    kid-siblings : (y : NodeName) → In y kids → siblings ts y ≡ kids
    kid-siblings y i = ap (λ o. option_map_or (children_of ts) o (y ∷ [])) (parent-of_child ts c y once there i).0

    -- the first behind it
    pub begins : (b : Boundary NodeName) (path : List NodeName) (w : Course b path) → first_behind ts b path ≡ first_of (level b path w).back
    unfolding level
    begins b path (at_top empty same) = ap (first_behind ts b) empty ∙ ap (λ x. first_of (drop b.offset (children_of ts x))) same
    begins b path (inside y more whole last among below) =
        ap (λ o. option_map_or (next_sibling ts) o (first_of (drop b.offset (children_of ts b.node)))) last ∙
        ap (λ xs. first_of (items_after name_eq y xs)) (kid-siblings y among)

    -- and the first that is not in front of it
    pub stops : (b : Boundary NodeName) (path : List NodeName) (w : Course b path) →
        first_from ts b path ≡ first_of ((level b path w).middle ++ (level b path w).back)
    unfolding level
    stops b path (at_top empty same) = ap (first_from ts b) empty ∙ ap (λ x. first_of (drop b.offset (children_of ts x))) same
    stops b path (inside y more whole last among below) = ap (λ o. option_map_or Some o (first_of (drop b.offset (children_of ts b.node)))) last

    -- ---- what is taken

    module _ (b : Boundary NodeName) (path : List NodeName) (h : Has ts b.node) (up : inclusive_ancestors ts b.node ≡ path ++ c ∷ rest)
        (other : NodeName) (apart : (y : NodeName) → In y kids → last_of path ≡ Some y → is_inclusive_ancestor ts y other ≡ false)
        (leaves : (y : NodeName) → In y kids → (x : NodeName) → In x (inclusive_descendants ts y) → has_data (kind_of ts x) ≡ true →
        children_of ts x ≡ []) where
      -- what is taken of the child that holds the end and not the other one, behind the end or in front of it
      pub side-held : (behind : Bool)
          → items_of (pieces_along ts b.node (taken ts once b behind) (from ts once b behind) (to ts once b behind)
          (tree_holding ts b.node other (trees_below (subtree ts c)))) ≡ side_items ts b behind path
      side-held behind = by (course b path h up)
        where
          below_c : Trees
          below_c = trees_below (subtree ts c)

          along : Trees → List Item
          along us = items_of (pieces_along ts b.node (taken ts once b behind) (from ts once b behind) (to ts once b behind) us)

          by : Course b path → along (tree_holding ts b.node other below_c) ≡ side_items ts b behind path
          by (at_top empty same) =
              ap along (none-held ts b.node other below_c
              (λ z i. kid-off {b = b} (at_top empty same) h i (λ last. none-some z (ap last_of (sym empty) ∙ last)))) ∙
              ap (side_items ts b behind) (sym empty)
          by (inside y more whole last among below) =
              let above : is_inclusive_ancestor ts y b.node ≡ true =
              is_in-from y (inclusive_ancestors ts b.node)
              (above-from_below ts y b.node once (kid-stands y among) (Has-names (subtree ts y) b.node below)) in
              let hold : holds ts b.node other y ≡ true = ap (λ t. t && not (is_inclusive_ancestor ts y other)) above ∙ ap not (apart y among last) in
              let only : (z : NodeName) → In z kids → holds ts b.node other z ≡ true → z ≡ y =
              λ z i t. elim (same_or_not z y) [
                | inl e ↦ e
                | inr off ↦ absurd (true≢false
                    (sym t ∙ holds-not ts b.node other z
                    (kid-off {b = b} (inside y more whole last among below) h i (λ l. off (same_Some z y (sym l ∙ last))))))
              ] in
              ap along (one-held ts b.node other below_c (once-below ts c once there) y among hold only ∙ child-tree ts c once there y among)
              ∙ (side-is ts once b behind h y (kid-stands y among) (leaves y among) more (c ∷ rest) (up ∙ ap (λ xs. xs ++ c ∷ rest) whole)
              (ap last_of (sym whole) ∙ last) ∙ ap (side_items ts b behind) (sym whole))
