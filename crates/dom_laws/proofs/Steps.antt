-- What stands before a node and behind its tree, told by its parent, its children and its siblings.
use Rattle.dom_base.proofs.Std.{◌≡◌, inl, inr, List, [], ◌∷◌, ◌++◌, Option, Some, None, refl, sym, ap, subst, ◌∙◌, append_assoc, option_map_or, append-nil}
use Rattle.dom_base.proofs.Std.{flat_map-cons, flat_map-append}
use Rattle.dom_model.proofs.Model.{NodeName, name_eq, first_of, last_of, items_before, items_after, Trees, subtree, inclusive_ancestors, parent_of, children_of}
use Rattle.dom_model.proofs.Model.{inclusive_descendants, next_sibling, previous_sibling, siblings}
use Rattle.dom_laws.specs.Within.{ahead_of, behind, beyond, from_node, up_to_node}
use Rattle.dom_laws.proofs.Lists.{In, In-left, In-right, Single, Single-apart, no_first, no_last, first_split, last_split, split_at, before-split}
use Rattle.dom_laws.proofs.Lists.{after-split, before-in, after-in}
use Rattle.dom_laws.proofs.Shapes.{above-present, above-parent, above-root, above-from_below, below-from_above}
use Rattle.dom_laws.proofs.Children.{In-names, Has-names, parent-of_child, child-of_parent}
use Rattle.dom_laws.proofs.Order.{IsWithin, joined, below, stands_in, all_single, here, split_is, splits}

-- ---- who stands within the tree of top

-- the top stands above the nodes of its tree
above_within : (ts : Trees) (top x : NodeName) → IsWithin ts top x → In top (inclusive_ancestors ts x)
above_within ts top x w = above-from_below ts top x w.once w.top_stands w.stands

-- so do the children
pub within-child : (ts : Trees) (top p x : NodeName) → IsWithin ts top p → In x (children_of ts p) → IsWithin ts top x
within-child ts top p x w i =
    let up = parent-of_child ts p x w.once (stands_in ts top p w) i in
    let is = (above-parent ts x p w.once up.1 up.0).0 in
    record {
      once = w.once;
      top_stands = w.top_stands;
      stands = below-from_above ts top x w.once up.1 (subst (In top) (sym is) (inr (above_within ts top p w)));
    }

-- each node stands in its own tree
pub within-itself : (ts : Trees) (top x : NodeName) → IsWithin ts top x → IsWithin ts x x
within-itself ts top x w =
    let begins = above-present ts x (stands_in ts top x w) in
    record {
      once = w.once;
      top_stands = stands_in ts top x w;
      stands = below-from_above ts x x w.once (stands_in ts top x w) (subst (In x) (sym begins.1) (inl refl));
    }

-- the top stands in its own tree
pub within-top : (ts : Trees) (top x : NodeName) → IsWithin ts top x → IsWithin ts top top
within-top ts top x w =
    let begins = above-present ts top w.top_stands in
    record { once = w.once; top_stands = w.top_stands; stands = below-from_above ts top top w.once w.top_stands (subst (In top) (sym begins.1) (inl refl)) }

-- ---- at the top nothing is before or beyond

-- nothing before, nothing beyond
pub top_places : (ts : Trees) (top : NodeName) → IsWithin ts top top → (ahead_of ts top top ≡ []) × (beyond ts top top ≡ [])
top_places ts top w =
    let is = split_is ts top top w [] [] (sym (append-nil (inclusive_descendants ts top))) in
    (is.0, is.2)

-- ---- down, by the place of a child among the children

-- A node p in the tree of top, and x among its children.
module _ (ts : Trees) (top p x : NodeName) where
  -- before a child stand its parent and the trees of the children before, beyond it those behind
  pub child_places : (before after : List NodeName) → IsWithin ts top p → children_of ts p ≡ before ++ x ∷ after
      → IsWithin ts top x × (ahead_of ts top x ≡ ahead_of ts top p ++ p ∷ joined ts before) × (beyond ts top x ≡ joined ts after ++ beyond ts top p)
  child_places before after w e =
      let among : In x (children_of ts p) = subst (In x) (sym e) (In-right x before (x ∷ after) (inl refl)) in
      let inside = within-child ts top p x w among in
      let tree = inclusive_descendants ts x in
      let parts : below ts p ≡ joined ts before ++ (tree ++ joined ts after) =
      ap (joined ts) e ∙ (flat_map-append (inclusive_descendants ts) before (x ∷ after) ∙
      ap (λ xs. joined ts before ++ xs) (flat_map-cons (inclusive_descendants ts) x after)) in
      let regroup : (a b c d : List NodeName) → (a ++ (b ++ c)) ++ d ≡ a ++ (b ++ (c ++ d)) =
      λ a b c d. append_assoc a (b ++ c) d ∙ ap (λ xs. a ++ xs) (append_assoc b c d) in
      let whole : inclusive_descendants ts top ≡ (ahead_of ts top p ++ p ∷ joined ts before) ++ (tree ++ (joined ts after ++ beyond ts top p)) =
      splits ts top p w
      ∙ (ap (λ xs. ahead_of ts top p ++ (xs ++ beyond ts top p)) (here ts top p w ∙ ap (λ xs. p ∷ xs) parts)
      ∙ (ap (λ xs. ahead_of ts top p ++ p ∷ xs) (regroup (joined ts before) tree (joined ts after) (beyond ts top p))
      ∙ sym (append_assoc (ahead_of ts top p) (p ∷ joined ts before) (tree ++ (joined ts after ++ beyond ts top p))))) in
      let is = split_is ts top x inside (ahead_of ts top p ++ p ∷ joined ts before) (joined ts after ++ beyond ts top p) whole in
      (inside, is.0, is.2)

  -- below a node come first the tree of its first child and what is beyond that
  pub first_child : IsWithin ts top p → first_of (children_of ts p) ≡ Some x
      → IsWithin ts top x × (below ts p ++ beyond ts top p ≡ inclusive_descendants ts x ++ beyond ts top x)
  first_child w e =
      let s = first_split (children_of ts p) x e in
      let is = child_places [] s.0 w s.1 in (
        is.0,
        ap (λ xs. xs ++ beyond ts top p) (ap (joined ts) s.1 ∙ flat_map-cons (inclusive_descendants ts) x s.0)
            ∙ (append_assoc (inclusive_descendants ts x) (joined ts s.0) (beyond ts top p) ∙ ap (λ xs. inclusive_descendants ts x ++ xs) (sym is.2)),
      )

  -- the tree of a last child ends as its parent's does
  pub last_child : IsWithin ts top p → last_of (children_of ts p) ≡ Some x
      → IsWithin ts top x × (ahead_of ts top x ++ inclusive_descendants ts x ≡ ahead_of ts top p ++ inclusive_descendants ts p) ×
      (beyond ts top x ≡ beyond ts top p)
  last_child w e =
      let s = last_split (children_of ts p) x e in
      let is = child_places s.0 [] w s.1 in
      let tree = inclusive_descendants ts x in
      let parts : below ts p ≡ joined ts s.0 ++ tree =
      ap (joined ts) s.1 ∙ (flat_map-append (inclusive_descendants ts) s.0 (x ∷ []) ∙
      ap (λ xs. joined ts s.0 ++ xs) (flat_map-cons (inclusive_descendants ts) x [] ∙ append-nil tree)) in (
        is.0,
        ap (λ xs. xs ++ tree) is.1 ∙ (append_assoc (ahead_of ts top p) (p ∷ joined ts s.0) tree ∙
            ap (λ xs. ahead_of ts top p ++ xs) (ap (λ xs. p ∷ xs) (sym parts) ∙ sym (here ts top p w))),
        is.2,
      )

-- a node without children has none below it
pub no_child : (ts : Trees) (x : NodeName) → first_of (children_of ts x) ≡ None → below ts x ≡ []
no_child ts x e = ap (joined ts) (no_first (children_of ts x) e)

-- a node without a last child has none below it
pub no_last_child : (ts : Trees) (x : NodeName) → last_of (children_of ts x) ≡ None → below ts x ≡ []
no_last_child ts x e = ap (joined ts) (no_last (children_of ts x) e)

-- ---- aside

-- A node x in the tree of top, other than top.
module _ (ts : Trees) (top x : NodeName) where
  -- the parent stands there too, but for that of the top
  pub within-parent : (p : NodeName) → IsWithin ts top x → (x ≡ top → ⊥) → parent_of ts x ≡ Some p → IsWithin ts top p
  within-parent p w other e =
      let up = above-parent ts x p w.once (stands_in ts top x w) e in
      record {
        once = w.once;
        top_stands = w.top_stands;
        stands = below-from_above ts top p w.once up.1
            (elim (subst (In top) up.0 (above_within ts top x w)) [ inl same ↦ absurd (other (sym same)) | inr i ↦ i ]);
      }

  -- only the top may have no parent
  pub within-root : IsWithin ts top x → (x ≡ top → ⊥) → parent_of ts x ≡ None → ⊥
  within-root w other e = elim (subst (In top) (above-root ts x (stands_in ts top x w) e) (above_within ts top x w))
      [ inl same ↦ other (sym same) | inr i ↦ i ]

  -- where x stands among its parent's children
  siblings-split : (p : NodeName) → IsWithin ts top x → parent_of ts x ≡ Some p
      → children_of ts p ≡ items_before name_eq x (siblings ts x) ++ x ∷ items_after name_eq x (siblings ts x)
  siblings-split p w e =
      let all : siblings ts x ≡ children_of ts p = ap (λ o. option_map_or (children_of ts) o (x ∷ [])) e in
      split_at x (children_of ts p) (child-of_parent ts x p w.once (stands_in ts top x w) e).1
      ∙ ap (λ xs. items_before name_eq x xs ++ x ∷ items_after name_eq x xs) (sym all)

  -- beyond a node comes first the tree of its next sibling
  pub next_places : (s : NodeName) → IsWithin ts top x → (x ≡ top → ⊥) → next_sibling ts x ≡ Some s
      → IsWithin ts top s × (beyond ts top x ≡ inclusive_descendants ts s ++ beyond ts top s) × (parent_of ts s ≡ parent_of ts x)
  next_places s w other e = by (parent_of ts x) refl
    where
      by : (o : Option NodeName) → parent_of ts x ≡ o → IsWithin ts top s × (beyond ts top x ≡ inclusive_descendants ts s ++ beyond ts top s) ×
          (parent_of ts s ≡ parent_of ts x)
      by None up = absurd (within-root w other up)
      by (Some p) up =
          let above = within-parent p w other up in
          let split = siblings-split p w up in
          let front = items_before name_eq x (siblings ts x) in
          let back = first_split (items_after name_eq x (siblings ts x)) s e in
          let mine = child_places ts top p x front (items_after name_eq x (siblings ts x)) above split in
          let its = child_places ts top p s (front ++ x ∷ []) back.0 above
          (split ∙ (ap (λ xs. front ++ x ∷ xs) back.1 ∙ sym (append_assoc front (x ∷ []) (s ∷ back.0)))) in
          let among : In s (children_of ts p) =
          subst (In s) (sym split)
          (In-right s front (x ∷ items_after name_eq x (siblings ts x)) (inr (subst (In s) (sym back.1) (inl refl)))) in (
            its.0,
            mine.2
                ∙ (ap (λ xs. xs ++ beyond ts top p) (ap (joined ts) back.1 ∙ flat_map-cons (inclusive_descendants ts) s back.0)
                ∙ (append_assoc (inclusive_descendants ts s) (joined ts back.0) (beyond ts top p) ∙ ap (λ xs. inclusive_descendants ts s ++ xs) (sym its.2))),
            (parent-of_child ts p s w.once (stands_in ts top p above) among).0 ∙ sym up,
          )

  -- without one what is beyond its parent
  pub no_next : (p : NodeName) → IsWithin ts top x → (x ≡ top → ⊥) → parent_of ts x ≡ Some p → next_sibling ts x ≡ None →
      beyond ts top x ≡ beyond ts top p
  no_next p w other up e =
      let above = within-parent p w other up in
      let mine = child_places ts top p x (items_before name_eq x (siblings ts x)) (items_after name_eq x (siblings ts x)) above
      (siblings-split p w up) in
      mine.2 ∙ ap (λ xs. joined ts xs ++ beyond ts top p) (no_first (items_after name_eq x (siblings ts x)) e)

-- before a node comes last the tree of its previous sibling
pub previous_places : {ts : Trees} {top x s : NodeName} → IsWithin ts top x → (x ≡ top → ⊥) → previous_sibling ts x ≡ Some s →
    IsWithin ts top s × (ahead_of ts top x ≡ ahead_of ts top s ++ inclusive_descendants ts s) × (parent_of ts s ≡ parent_of ts x)
previous_places {ts} {top} {x} {s} w other e = by (parent_of ts x) refl
  where
    by : (o : Option NodeName) → parent_of ts x ≡ o → IsWithin ts top s × (ahead_of ts top x ≡ ahead_of ts top s ++ inclusive_descendants ts s) ×
        (parent_of ts s ≡ parent_of ts x)
    by None up = absurd (within-root ts top x w other up)
    by (Some p) up =
        let above = within-parent ts top x p w other up in
        let split = siblings-split ts top x p w up in
        let back = items_after name_eq x (siblings ts x) in
        let front = last_split (items_before name_eq x (siblings ts x)) s e in
        let mine = child_places ts top p x (items_before name_eq x (siblings ts x)) back above split in
        let its = child_places ts top p s front.0 (x ∷ back) above (split ∙ (ap (λ xs. xs ++ x ∷ back) front.1 ∙ append_assoc front.0 (s ∷ []) (x ∷ back))) in
        let tree = inclusive_descendants ts s in
        let among : In s (children_of ts p) =
        subst (In s) (sym split)
        (In-left s (items_before name_eq x (siblings ts x)) (x ∷ back)
        (subst (In s) (sym front.1) (In-right s front.0 (s ∷ []) (inl refl)))) in (
          its.0,
          mine.1
              ∙ (ap (λ xs. ahead_of ts top p ++ p ∷ xs)
              (ap (joined ts) front.1 ∙
              (flat_map-append (inclusive_descendants ts) front.0 (s ∷ []) ∙
              ap (λ xs. joined ts front.0 ++ xs) (flat_map-cons (inclusive_descendants ts) s [] ∙ append-nil tree)))
              ∙ (sym (append_assoc (ahead_of ts top p) (p ∷ joined ts front.0) tree) ∙ ap (λ xs. xs ++ tree) (sym its.1))),
          (parent-of_child ts p s w.once (stands_in ts top p above) among).0 ∙ sym up,
        )

-- without one its parent
pub no_previous : {ts : Trees} {top x p : NodeName} → IsWithin ts top x → (x ≡ top → ⊥) → parent_of ts x ≡ Some p → previous_sibling ts x ≡ None →
    ahead_of ts top x ≡ ahead_of ts top p ++ p ∷ []
no_previous {ts} {top} {x} {p} w other up e =
    let above = within-parent ts top x p w other up in
    let mine = child_places ts top p x (items_before name_eq x (siblings ts x)) (items_after name_eq x (siblings ts x)) above
    (siblings-split ts top x p w up) in
    mine.1 ∙ ap (λ xs. ahead_of ts top p ++ p ∷ joined ts xs) (no_last (items_before name_eq x (siblings ts x)) e)

-- ---- along the whole order

-- a member of the tree of top
pub within-member : (ts : Trees) (top x y : NodeName) → IsWithin ts top x → In y (inclusive_descendants ts top) → IsWithin ts top y
within-member ts top x y w i = record { once = w.once; top_stands = w.top_stands; stands = Has-names (subtree ts top) y i }

-- the nodes of the tree, around one of them
pub ordered : (ts : Trees) (top x : NodeName) → IsWithin ts top x → inclusive_descendants ts top ≡ ahead_of ts top x ++ x ∷ behind ts top x
ordered ts top x w = split_at x (inclusive_descendants ts top) (In-names (subtree ts top) x w.stands)

-- behind a node comes the next one, with all behind that one
pub following_place : (ts : Trees) (top x y : NodeName) → IsWithin ts top x → first_of (behind ts top x) ≡ Some y → IsWithin ts top y ×
    (behind ts top x ≡ y ∷ behind ts top y)
following_place ts top x y w e =
    let s = first_split (behind ts top x) y e in
    let inside = within-member ts top x y w (after-in x y (inclusive_descendants ts top) (subst (In y) (sym s.1) (inl refl))) in
    let front = ahead_of ts top x ++ x ∷ [] in
    let whole : inclusive_descendants ts top ≡ front ++ y ∷ s.0 =
    ordered ts top x w ∙ (ap (λ xs. ahead_of ts top x ++ x ∷ xs) s.1 ∙ sym (append_assoc (ahead_of ts top x) (x ∷ []) (y ∷ s.0))) in
    let apart : In y front → ⊥ = λ i. Single-apart y front (y ∷ s.0) (subst Single whole (all_single ts top x w)) i (inl refl) in
    (inside, s.1 ∙ ap (λ xs. y ∷ xs) (sym (ap (items_after name_eq y) whole ∙ after-split y front s.0 apart)))

-- before a node comes the previous one, with all before that one
pub preceding_place : (ts : Trees) (top x y : NodeName) → IsWithin ts top x → last_of (ahead_of ts top x) ≡ Some y → IsWithin ts top y ×
    (ahead_of ts top x ≡ ahead_of ts top y ++ y ∷ [])
preceding_place ts top x y w e =
    let s = last_split (ahead_of ts top x) y e in
    let inside = within-member ts top x y w (before-in x y (inclusive_descendants ts top) (subst (In y) (sym s.1) (In-right y s.0 (y ∷ []) (inl refl)))) in
    let whole : inclusive_descendants ts top ≡ s.0 ++ y ∷ (x ∷ behind ts top x) =
    ordered ts top x w ∙ (ap (λ xs. xs ++ x ∷ behind ts top x) s.1 ∙ append_assoc s.0 (y ∷ []) (x ∷ behind ts top x)) in
    let apart : In y s.0 → ⊥ = λ i. Single-apart y s.0 (y ∷ (x ∷ behind ts top x)) (subst Single whole (all_single ts top x w)) i (inl refl) in
    (inside, s.1 ∙ ap (λ xs. xs ++ y ∷ []) (sym (ap (items_before name_eq y) whole ∙ before-split y s.0 (x ∷ behind ts top x) apart)))

-- behind a node stands the next one, with all behind that one
pub behind-next : (ts : Trees) (top x : NodeName) → IsWithin ts top x → (o : Option NodeName) → first_of (behind ts top x) ≡ o →
    behind ts top x ≡ from_node ts top o
behind-next ts top x w None e = no_first (behind ts top x) e
behind-next ts top x w (Some y) e = (following_place ts top x y w e).1

-- before a node stands the previous one, with all before that one
pub ahead-previous : (ts : Trees) (top x : NodeName) → IsWithin ts top x → (o : Option NodeName) → last_of (ahead_of ts top x) ≡ o →
    ahead_of ts top x ≡ up_to_node ts top o
ahead-previous ts top x w None e = no_last (ahead_of ts top x) e
ahead-previous ts top x w (Some y) e = (preceding_place ts top x y w e).1
