-- A walk from sibling to sibling, in trees where each name stands once.
use Rattle.dom_base.proofs.Std.{◌≡◌, inl, inr, false, not, List, [], ◌∷◌, ◌++◌, Option, Some, None, refl, sym, ap, subst, ◌∙◌, option_map_or, cases_Bool}
use Rattle.dom_base.proofs.Std.{append-nil, filter-append}
use Rattle.dom_model.proofs.Model.{NodeName, name_eq, first_of, last_of, items_after, Trees, roots, names_of, trees_below, parent_of, children_of, siblings}
use Rattle.dom_model.proofs.Model.{next_sibling, name_eq-same, name_eq-other}
use Rattle.dom_laws.specs.Siblings.{from_sibling, without_name}
use Rattle.dom_laws.proofs.Lists.{In, Single, Single-apart, In-right, after-in, filter-all, last_split}
use Rattle.dom_laws.proofs.Counts.{Once}
use Rattle.dom_laws.proofs.Shapes.{Has, has_or_not, subtree-absent}
use Rattle.dom_laws.proofs.Children.{parent-of_child, children-single}

-- what is behind the first name behind x
after-next : (x y : NodeName) (xs ys : List NodeName) → Single xs → items_after name_eq x xs ≡ y ∷ ys → items_after name_eq y xs ≡ ys
after-next x y [] ys single e = cc
after-next x y (z ∷ zs) ys single e = elim (cases_Bool (name_eq x z)) [
  | inl h ↦ here (rw h at e)
  | inr h ↦ let is : items_after name_eq x zs ≡ y ∷ ys = rw h at e in later is (after-next x y zs ys single.1 is)
]
  where
    not_first : In y zs → name_eq y z ≡ false
    not_first i = name_eq-other y z (λ same. single.0 (subst (λ w. In w zs) same i))

    here : zs ≡ y ∷ ys → items_after name_eq y (z ∷ zs) ≡ ys
    here is = rw (not_first (subst (In y) (sym is) (inl refl)), is, name_eq-same y) refl

    later : items_after name_eq x zs ≡ y ∷ ys → items_after name_eq y zs ≡ ys → items_after name_eq y (z ∷ zs) ≡ ys
    later is rest = rw (not_first (after-in x y zs (subst (In y) (sym is) (inl refl)))) rest

-- a list without its last name
without-last : (x : NodeName) (xs : List NodeName) → Single (xs ++ x ∷ []) → without_name x (xs ++ x ∷ []) ≡ xs
without-last x xs single =
    filter-append (λ y. not (name_eq x y)) xs (x ∷ [])
    ∙ ap (λ ys. ys ++ without_name x (x ∷ [])) (filter-all (λ y. not (name_eq x y)) xs
    (λ y i. ap not (name_eq-other x y (λ same. Single-apart y xs (x ∷ []) single i (inl (sym same))))))
    ∙ rw (name_eq-same x) (append-nil xs)

module _ (ts : Trees) (once : Once ts) where
  -- who has a child stands in the trees
  has_child : (p x : NodeName) → In x (children_of ts p) → Has ts p
  has_child p x i = elim (has_or_not ts p) [
    | inl h ↦ h
    | inr off ↦ absurd (subst (λ (us : Trees). In x (names_of (roots (trees_below us)))) (subtree-absent ts p off) i)
  ]

  -- the parent of a child
  pub child_parent : (p x : NodeName) → In x (children_of ts p) → parent_of ts x ≡ Some p
  child_parent p x i = (parent-of_child ts p x once (has_child p x i) i).0

  -- and its siblings
  child_siblings : (p x : NodeName) → In x (children_of ts p) → siblings ts x ≡ children_of ts p
  child_siblings p x i = ap (λ o. option_map_or (children_of ts) o (x ∷ [])) (child_parent p x i)

  -- a walk begins at the first child
  pub from_first : (p : NodeName) → from_sibling ts (first_of (children_of ts p)) ≡ children_of ts p
  from_first p = by (children_of ts p) refl
    where
      by : (xs : List NodeName) → children_of ts p ≡ xs → from_sibling ts (first_of xs) ≡ xs
      by [] e = refl
      by (x ∷ xs) e =
          let same : siblings ts x ≡ x ∷ xs = child_siblings p x (subst (In x) (sym e) (inl refl)) ∙ e in
          ap (λ ys. x ∷ items_after name_eq x ys) same ∙ rw (name_eq-same x) refl

  -- and goes on to the next sibling
  pub from_next : (x : NodeName) → from_sibling ts (next_sibling ts x) ≡ items_after name_eq x (siblings ts x)
  from_next x = by (items_after name_eq x (siblings ts x)) refl
    where
      by_parent : (o : Option NodeName) (y : NodeName) (ys : List NodeName) → parent_of ts x ≡ o →
          items_after name_eq x (option_map_or (children_of ts) o (x ∷ [])) ≡ y ∷ ys → items_after name_eq y (siblings ts y) ≡ ys
      by_parent None y ys up e = absurd (alone (rw (name_eq-same x) at e))
        where
          alone : [] ≡ y ∷ ys → ⊥
          alone f = cc
      by_parent (Some p) y ys up e =
          let i : In y (children_of ts p) = after-in x y (children_of ts p) (subst (In y) (sym e) (inl refl)) in
          ap (items_after name_eq y) (child_siblings p y i) ∙ after-next x y (children_of ts p) ys (children-single ts p once (has_child p y i)) e

      by : (xs : List NodeName) → items_after name_eq x (siblings ts x) ≡ xs → from_sibling ts (first_of xs) ≡ xs
      by [] e = refl
      by (y ∷ ys) e = ap (λ zs. y ∷ zs) (by_parent (parent_of ts x) y ys refl e)

  -- the last child stands behind all others
  pub last_apart : (p x : NodeName) → last_of (children_of ts p) ≡ Some x → without_name x (children_of ts p) ++ x ∷ [] ≡ children_of ts p
  last_apart p x e =
      let w = last_split (children_of ts p) x e in
      let i : In x (children_of ts p) = subst (In x) (sym w.1) (In-right x w.0 (x ∷ []) (inl refl)) in
      let single = subst Single w.1 (children-single ts p once (has_child p x i)) in
      ap (λ xs. without_name x xs ++ x ∷ []) w.1 ∙ ap (λ xs. xs ++ x ∷ []) (without-last x w.0 single) ∙ sym w.1
