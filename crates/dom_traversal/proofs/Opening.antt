-- The nodes that are accepted and reached through open nodes alone, and what a node that is not open hides.
use Rattle.dom_traversal.proofs.Cited.{◌≡◌, inl, inr, ℕ, ◌≤◌, zero, suc, Bool, true, false, not, ◌&&◌, List, [], ◌∷◌, ◌++◌, length, Option, Some, None, refl}
use Rattle.dom_traversal.proofs.Cited.{sym, ap, subst, ◌∙◌, arith, length-append, append_assoc, drop, filter, list_any, list_all, cases_Bool, and_left}
use Rattle.dom_traversal.proofs.Cited.{and_right, and_from, and_parts, both_ways, false_from_ne_true, none-some, same_Some, filter-append, above-along}
use Rattle.dom_traversal.proofs.Cited.{above-from_below, above-parent, above-proper, above-split, after-split, ahead_of, all_single, ancestors, behind}
use Rattle.dom_traversal.proofs.Cited.{behind_is, below, below-from_above, beyond, children_of, filter-no, filter-none, first_of, first_split, Has, Has-names}
use Rattle.dom_traversal.proofs.Cited.{Has-subtree, here, In, In-right, inclusive_ancestors, inclusive_descendants, IsWithin, items_after, items_before}
use Rattle.dom_traversal.proofs.Cited.{name_eq, next_places, next_sibling, no_first, no_next, NodeName, Once, parent-of_child, parent_of, proper-parent}
use Rattle.dom_traversal.proofs.Cited.{same_or_not, Single, Single-apart, splits, stands_in, subtree, top_places, Trees, within-member, within-parent}
use Rattle.dom_traversal.proofs.Cited.{within-root, within-top}

-- tests of all members
pub all-from : (p : NodeName → Bool) (xs : List NodeName) → ((a : NodeName) → In a xs → p a ≡ true) → list_all p xs ≡ true
all-from p [] h = refl
all-from p (x ∷ xs) h = and_from (p x) _ (h x (inl refl)) (all-from p xs (λ a i. h a (inr i)))

-- what holds of all members holds of each
pub all-at : (p : NodeName → Bool) (xs : List NodeName) → list_all p xs ≡ true → (a : NodeName) → In a xs → p a ≡ true
all-at p [] e a i = absurd i
all-at p (x ∷ xs) e a (inl same) = ap p same ∙ (and_parts (p x) _ e).0
all-at p (x ∷ xs) e a (inr i) = all-at p xs (and_parts (p x) _ e).1 a i

-- a member that fails breaks it
pub all-breaks : (p : NodeName → Bool) (xs : List NodeName) (a : NodeName) → In a xs → p a ≡ false → list_all p xs ≡ false
all-breaks p xs a i e = false_from_ne_true _ (λ all. both_ways _ e (all-at p xs all a i))

-- none passes where all fail
pub none-all : (p : NodeName → Bool) (xs : List NodeName) → not (list_any p xs) ≡ list_all (λ a. not (p a)) xs
none-all p [] = refl
none-all p (x ∷ xs) = elim (cases_Bool (p x)) [ inl e ↦ rw e refl | inr e ↦ rw e (none-all p xs) ]

-- ---- above a child

-- A node of trees in which each stands once.
module _ (ts : Trees) (x : NodeName) (once : Once ts) (h : Has ts x) where
  -- no node stands above itself
  pub not_above_itself : In x (ancestors ts x) → ⊥
  not_above_itself = by (parent_of ts x) refl
    where
      by : (o : Option NodeName) → parent_of ts x ≡ o → In x (ancestors ts x) → ⊥
      by None e i = subst (In x) (no_first (ancestors ts x) e) i
      by (Some p) e i =
          let up = above-parent ts x p once h e in
          let path : ancestors ts x ≡ inclusive_ancestors ts p = ap (drop 1) up.0 in
          let split = above-split ts x p once up.1 (subst (In x) path i) in
          let shorter = items_before name_eq x (inclusive_ancestors ts p) in
          omega (arith, ap (length {A = NodeName}) split, ap (length {A = NodeName}) up.0, length-append shorter (inclusive_ancestors ts x))

  -- what stands above a node above x is not x
  pub not_around : (a : NodeName) → In a (ancestors ts x) → In x (inclusive_ancestors ts a) → ⊥
  not_around a = by (parent_of ts x) refl
    where
      by : (o : Option NodeName) → parent_of ts x ≡ o → In a (ancestors ts x) → In x (inclusive_ancestors ts a) → ⊥
      by None e i j = subst (In a) (no_first (ancestors ts x) e) i
      by (Some p) e i j =
          let up = proper-parent ts x p once h e in
          let path : ancestors ts x ≡ inclusive_ancestors ts p = up.0 ∙ sym (above-proper ts p up.1) in
          not_above_itself (subst (In x) (sym path) (above-along ts x a p once up.1 j (subst (In a) path i)))

-- ---- accepted nodes whose proper ancestors are open

-- a node is reached
abbrev pub reached : Trees → (NodeName → Bool) → (NodeName → Bool) → NodeName → Bool
reached ts accept clear y = accept y && list_all clear (ancestors ts y)

module _ (ts : Trees) (accept clear : NodeName → Bool) (top x : NodeName) (w : IsWithin ts top x) where
  -- below a node that is not open none is reached
  pub hidden : clear x ≡ false → (y : NodeName) → In y (below ts x) → reached ts accept clear y ≡ false
  hidden shut y i =
      let tree : In y (inclusive_descendants ts x) = subst (In y) (sym (here ts top x w)) (inr i) in
      let up = above-from_below ts x y w.once (stands_in ts top x w) (Has-names (subtree ts x) y tree) in
      let at : Has ts y = Has-subtree ts x y w.once (Has-names (subtree ts x) y tree) in
      let apart : x ≡ y → ⊥ = λ same. (subst Single (here ts x x (within-itself)) (all_single ts x x within-itself)).0
      (subst (λ z. In z (below ts x)) (sym same) i) in
      and_right (accept y) _ (all-breaks clear (ancestors ts y) x
      (elim (subst (In x) (above-proper ts y at) up) [ inl same ↦ absurd (apart same) | inr j ↦ j ]) shut)
    where
      within-itself : IsWithin ts x x
      within-itself = record {
        once = w.once;
        top_stands = stands_in ts top x w;
        stands = below-from_above ts x x w.once (stands_in ts top x w) (subst (In x) (sym (above-proper ts x (stands_in ts top x w))) (inl refl));
      }

  -- a node that is neither accepted nor open is passed with its tree
  pub reached-shut : accept x ≡ false → clear x ≡ false → (zs : List NodeName) →
      filter (reached ts accept clear) (inclusive_descendants ts x ++ zs) ≡ filter (reached ts accept clear) zs
  reached-shut no_x shut zs =
      ap (λ xs. filter (reached ts accept clear) (xs ++ zs)) (here ts top x w)
      ∙ (filter-no (reached ts accept clear) x (below ts x ++ zs) (and_left (accept x) _ no_x)
      ∙ (filter-append (reached ts accept clear) (below ts x) zs ∙ ap (λ xs. xs ++ filter (reached ts accept clear) zs)
      (filter-none (reached ts accept clear) (below ts x) (hidden shut))))

  -- above a child of an open node all is open, if it is so above the node
  pub path-child : (c : NodeName) → In c (children_of ts x) → clear x ≡ true → list_all clear (ancestors ts x) ≡ true → list_all clear (ancestors ts c) ≡ true
  path-child c i is_open path =
      let up = parent-of_child ts x c w.once (stands_in ts top x w) i in
      ap (list_all clear) (proper-parent ts c x w.once up.1 up.0).0 ∙ and_from (clear x) _ is_open path

-- what is first beyond a node has no other nodes above it than that node
pub beyond-above : {ts : Trees} (d : ℕ) {top x y : NodeName} → length (inclusive_ancestors ts x) ≤ d → IsWithin ts top x → first_of (beyond ts top x) ≡ Some y →
    (a : NodeName) → In a (ancestors ts y) → In a (ancestors ts x)
beyond-above {ts} zero {top} {x} few w e = absurd (omega (arith, ap (length {A = NodeName}) (above-proper ts x (stands_in ts top x w)), few))
beyond-above {ts} (suc d) {top} {x} {y} few w e = elim (same_or_not x top) [
  | inl same ↦ absurd (none-some y (sym (ap first_of (ap (beyond ts top) same ∙ (top_places ts top (within-top ts top x w)).1)) ∙ e))
  | inr other ↦ by other refl refl (λ p above less. beyond-above d less above)
]
  where
    by : (x ≡ top → ⊥) → {s : Option NodeName} → next_sibling ts x ≡ s → {o : Option NodeName} → parent_of ts x ≡ o
        → ((p : NodeName) → IsWithin ts top p → length (inclusive_ancestors ts p) ≤ d → first_of (beyond ts top p) ≡ Some y → (a : NodeName) →
        In a (ancestors ts y) → In a (ancestors ts p))
        → (a : NodeName) → In a (ancestors ts y) → In a (ancestors ts x)
    by other next {o = None} up more a i = absurd (within-root ts top x w other up)
    by other {s = Some s} next {o = Some p} up more a i =
        let is = next_places ts top x s w other next in
        let same : s ≡ y = same_Some s y (sym (ap first_of (is.1 ∙ ap (λ xs. xs ++ beyond ts top s) (here ts top s is.0))) ∙ e) in
        let mine = (proper-parent ts x p w.once (stands_in ts top x w) up).0 in
        let its = (proper-parent ts s p w.once (stands_in ts top s is.0) (is.2 ∙ up)).0 in
        subst (In a) (sym mine) (subst (In a) its (subst (λ z. In a (ancestors ts z)) (sym same) i))
    by other {s = None} next {o = Some p} up more a i =
        let above = within-parent ts top x p w other up in
        let mine = proper-parent ts x p w.once (stands_in ts top x w) up in
        let less : length (inclusive_ancestors ts p) ≤ d =
        omega (arith, few, ap (length {A = NodeName}) (above-parent ts x p w.once (stands_in ts top x w) up).0) in
        subst (In a) (sym mine.0) (inr (more p above less (ap first_of (sym (no_next ts top x p w other up next)) ∙ e) a i))

-- it is a member of the tree of top, and behind it comes the rest
pub beyond_place : (ts : Trees) (top x y : NodeName) → IsWithin ts top x → first_of (beyond ts top x) ≡ Some y → IsWithin ts top y ×
    (beyond ts top x ≡ inclusive_descendants ts y ++ beyond ts top y)
beyond_place ts top x y w e =
    let s = first_split (beyond ts top x) y e in
    let tree = inclusive_descendants ts x in
    let among : In y (inclusive_descendants ts top) =
    subst (In y) (sym (splits ts top x w))
    (In-right y (ahead_of ts top x) (tree ++ beyond ts top x) (In-right y tree (beyond ts top x) (subst (In y) (sym s.1) (inl refl)))) in
    let inside = within-member ts top x y w among in
    let front = ahead_of ts top x ++ tree in
    let whole : inclusive_descendants ts top ≡ front ++ y ∷ s.0 =
    splits ts top x w ∙ (sym (append_assoc (ahead_of ts top x) tree (beyond ts top x)) ∙ ap (λ xs. front ++ xs) s.1) in
    let apart : In y front → ⊥ = λ i. Single-apart y front (y ∷ s.0) (subst Single whole (all_single ts top x w)) i (inl refl) in
    let rest : behind ts top y ≡ s.0 = ap (items_after name_eq y) whole ∙ after-split y front s.0 apart in
    (inside, s.1 ∙ (ap (λ xs. y ∷ xs) (sym rest ∙ behind_is ts top y inside) ∙ ap (λ xs. xs ++ beyond ts top y) (sym (here ts top y inside))))
