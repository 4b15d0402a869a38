-- Where nodes stand, as lists of numbers, in trees in which each name stands once.
use Rattle.dom_ranges.proofs.Cited.{◌≡◌, inl, inr, ℕ, ◌+◌, ◌≤◌, ◌<◌, List, [], ◌∷◌, ◌++◌, length, Option, Some, None, true, false, refl, sym, ap, subst, ◌∙◌}
use Rattle.dom_ranges.proofs.Cited.{arith, zero-add, drop, unwrap_or, option_map_or, same_Some, none-some, NodeName, name_eq, first_of, last_of, items_before}
use Rattle.dom_ranges.proofs.Cited.{place_from, place_of, same_root, Trees, none, tree, Node, names_of, roots, trees_below, inclusive_ancestors, parent_of}
use Rattle.dom_ranges.proofs.Cited.{root_of, index_of, children_of, name_eq-other, name_eq-true, name_eq-from, last_of-end, once_apart, Has, subtree-here}
use Rattle.dom_ranges.proofs.Cited.{subtree-below, subtree-beside, above-here, above-below, above-beside, above-present, above-parent, above-root, Once}
use Rattle.dom_ranges.proofs.Cited.{two_or_more}

-- a name that stands nowhere has no place
place-absent : (ts : Trees) (k : ℕ) (x : NodeName) → (Has ts x → ⊥) → place_from k ts x ≡ None
place-absent none k x off = refl
place-absent (tree n c r) k x off =
    rw (name_eq-other n.name x (λ e. off (inl e)), place-absent c 0 x (λ h. off (inr (inl h))), place-absent r (k + 1) x (λ h. off (inr (inr h)))) refl

-- a place begins with the number of its root, which is k or more
abbrev pub StandsFrom : ℕ → Trees → NodeName → Type 0
StandsFrom k ts x = (m : ℕ) × (path : List ℕ) × (place_from k ts x ≡ Some (m ∷ path)) × (k ≤ m)

-- a first root, what is below it and what is behind it
module _ (n : Node) (c r : Trees) (k : ℕ) (x : NodeName) where
  -- the place of the first root
  place-here : n.name ≡ x → place_from k (tree n c r) x ≡ Some (k ∷ [])
  place-here e = rw (name_eq-from n.name x e) refl

  -- that of a node behind its tree
  place-beside : Once (tree n c r) → Has r x → place_from k (tree n c r) x ≡ place_from (k + 1) r x
  place-beside once h =
      let apart = once_apart n c r once in
      rw (name_eq-other n.name x (λ e. apart.1 (subst (Has r) (sym e) h)), place-absent c 0 x (λ i. apart.2 x i h)) refl

  -- a node below it, whose place is known
  place-below : (path : List ℕ) → Once (tree n c r) → Has c x → place_from 0 c x ≡ Some path → place_from k (tree n c r) x ≡ Some (k ∷ path)
  place-below path once h e = rw (name_eq-other n.name x (λ f. (once_apart n c r once).0 (subst (Has c) (sym f) h)), e) refl

-- each node has a place
pub place-present : (ts : Trees) (k : ℕ) (x : NodeName) → Once ts → Has ts x → StandsFrom k ts x
place-present none k x once h = absurd h
place-present (tree n c r) k x once (inl e) = (k, [], place-here n c r k x e, omega arith)
place-present (tree n c r) k x once (inr (inl h)) =
    let w = place-present c 0 x (once_apart n c r once).3 h in
    (k, w.0 ∷ w.1, place-below n c r k x (w.0 ∷ w.1) once h w.2, omega arith)
place-present (tree n c r) k x once (inr (inr h)) =
    let w = place-present r (k + 1) x (once_apart n c r once).4 h in
    (w.0, w.1, place-beside n c r k x once h ∙ w.2, omega (arith, w.3))

-- lists with different first items
apart_heads : (k m : ℕ) (xs ys : List ℕ) → k < m → k ∷ xs ≡ m ∷ ys → ⊥
apart_heads k m xs ys l e = let f : k ≡ m = cc in omega (arith, f, l)

-- Two nodes of trees in which each name stands once.
pub record AreIn (ts : Trees) (x y : NodeName) : Type 0 where
  pub once : Once ts
  pub first : Has ts x
  pub second : Has ts y

-- at one place they are one
pub place-same : (ts : Trees) (k : ℕ) (x y : NodeName) → AreIn ts x y → place_from k ts x ≡ place_from k ts y → x ≡ y
place-same none k x y in_it e = absurd in_it.first
place-same (tree n c r) k x y in_it e =
    by (λ h i f. place-same c 0 x y record { once = (once_apart n c r in_it.once).3; first = h; second = i } f)
    (λ h i f. place-same r (k + 1) x y record { once = (once_apart n c r in_it.once).4; first = h; second = i } f) in_it.first in_it.second
  where
    once : Once (tree n c r)
    once = in_it.once

    by : (Has c x → Has c y → place_from 0 c x ≡ place_from 0 c y → x ≡ y) → (Has r x → Has r y → place_from (k + 1) r x ≡ place_from (k + 1) r y → x ≡ y) →
        Has (tree n c r) x → Has (tree n c r) y → x ≡ y
    by lower later (inl h) (inl i) = sym h ∙ i
    by lower later (inl h) (inr (inl i)) =
        let w = place-present c 0 y (once_apart n c r once).3 i in
        let f : Some (k ∷ []) ≡ Some (k ∷ w.0 ∷ w.1) = sym (place-here n c r k x h) ∙ (e ∙ place-below n c r k y (w.0 ∷ w.1) once i w.2) in
        cc
    by lower later (inl h) (inr (inr i)) =
        let w = place-present r (k + 1) y (once_apart n c r once).4 i in
        let f : Some (k ∷ []) ≡ Some (w.0 ∷ w.1) = sym (place-here n c r k x h) ∙ (e ∙ (place-beside n c r k y once i ∙ w.2)) in
        absurd (apart_heads k w.0 [] w.1 (omega (arith, w.3)) (same_Some _ _ f))
    by lower later (inr (inl h)) (inl i) =
        let w = place-present c 0 x (once_apart n c r once).3 h in
        let f : Some (k ∷ []) ≡ Some (k ∷ w.0 ∷ w.1) = sym (place-here n c r k y i) ∙ (sym e ∙ place-below n c r k x (w.0 ∷ w.1) once h w.2) in
        cc
    by lower later (inr (inl h)) (inr (inl i)) =
        let v = place-present c 0 x (once_apart n c r once).3 h in
        let w = place-present c 0 y (once_apart n c r once).3 i in
        let f : Some (k ∷ v.0 ∷ v.1) ≡ Some (k ∷ w.0 ∷ w.1) =
        sym (place-below n c r k x (v.0 ∷ v.1) once h v.2) ∙ (e ∙ place-below n c r k y (w.0 ∷ w.1) once i w.2) in
        let g : v.0 ∷ v.1 ≡ w.0 ∷ w.1 = cc in
        lower h i (v.2 ∙ (ap Some g ∙ sym w.2))
    by lower later (inr (inl h)) (inr (inr i)) =
        let v = place-present c 0 x (once_apart n c r once).3 h in
        let w = place-present r (k + 1) y (once_apart n c r once).4 i in
        let f : Some (k ∷ v.0 ∷ v.1) ≡ Some (w.0 ∷ w.1) = sym (place-below n c r k x (v.0 ∷ v.1) once h v.2) ∙ (e ∙ (place-beside n c r k y once i ∙ w.2)) in
        absurd (apart_heads k w.0 (v.0 ∷ v.1) w.1 (omega (arith, w.3)) (same_Some _ _ f))
    by lower later (inr (inr h)) (inl i) =
        let w = place-present r (k + 1) x (once_apart n c r once).4 h in
        let f : Some (k ∷ []) ≡ Some (w.0 ∷ w.1) = sym (place-here n c r k y i) ∙ (sym e ∙ (place-beside n c r k x once h ∙ w.2)) in
        absurd (apart_heads k w.0 [] w.1 (omega (arith, w.3)) (same_Some _ _ f))
    by lower later (inr (inr h)) (inr (inl i)) =
        let v = place-present c 0 y (once_apart n c r once).3 i in
        let w = place-present r (k + 1) x (once_apart n c r once).4 h in
        let f : Some (k ∷ v.0 ∷ v.1) ≡ Some (w.0 ∷ w.1) =
        sym (place-below n c r k y (v.0 ∷ v.1) once i v.2) ∙ (sym e ∙ (place-beside n c r k x once h ∙ w.2)) in
        absurd (apart_heads k w.0 (v.0 ∷ v.1) w.1 (omega (arith, w.3)) (same_Some _ _ f))
    by lower later (inr (inr h)) (inr (inr i)) =
        later h i (sym (place-beside n c r k x once h) ∙ (e ∙ place-beside n c r k y once i))

-- the place of a root, behind others
pub place-root : (ts : Trees) (k : ℕ) (x : NodeName) → Once ts → Has ts x → inclusive_ancestors ts x ≡ x ∷ []
    → place_from k ts x ≡ Some ((k + length (items_before name_eq x (names_of (roots ts)))) ∷ [])
place-root none k x once h e = absurd h
place-root (tree n c r) k x once (inl i) e = place-here n c r k x i ∙ ap (λ m. Some (m ∷ [])) (first_index (name_eq-from x n.name (sym i)))
  where
    first_index : name_eq x n.name ≡ true → k ≡ k + length (items_before name_eq x (names_of (roots (tree n c r))))
    first_index same = rw same (omega arith)
place-root (tree n c r) k x once (inr (inl h)) e =
    let w = above-present c x h in
    absurd (two_or_more x w.0 n.name (sym (above-below n c r x once h ∙ ap (λ path. path ++ n.name ∷ []) w.1) ∙ e))
place-root (tree n c r) k x once (inr (inr h)) e =
    place-beside n c r k x once h
    ∙ (place-root r (k + 1) x (once_apart n c r once).4 h (sym (above-beside n c r x once h) ∙ e)
    ∙ ap (λ m. Some (m ∷ [])) (later_index (name_eq-other x n.name (λ same. (once_apart n c r once).1 (subst (Has r) same h)))))
  where
    later_index : name_eq x n.name ≡ false →
        (k + 1) + length (items_before name_eq x (names_of (roots r))) ≡ k + length (items_before name_eq x (names_of (roots (tree n c r))))
    later_index other = rw other (omega arith)

-- the place of a child is that of its parent, and then its index
abbrev pub StandsUnder : ℕ → Trees → NodeName → NodeName → Type 0
StandsUnder k ts p x = (path : List ℕ) × (place_from k ts p ≡ Some path) ×
    (place_from k ts x ≡ Some (path ++ length (items_before name_eq x (children_of ts p)) ∷ []))

pub place-child : (ts : Trees) (k : ℕ) (x : NodeName) {p : NodeName} → Once ts → Has ts x → parent_of ts x ≡ Some p → StandsUnder k ts p x
place-child none k x once h e = absurd h
place-child (tree n c r) k x {p} once (inl i) e = absurd (none-some p (rw (above-here n c r x i) at e))
place-child (tree n c r) k x {p} once (inr (inl h)) e =
    let w = above-present c x h in
    by (place-child c 0 x (once_apart n c r once).3 h) (parent_below) w.0 w.1
    (ap (λ path. first_of (drop 1 path)) (sym (above-below n c r x once h ∙ ap (λ path. path ++ n.name ∷ []) w.1)) ∙ e)
  where
    parent_below : parent_of c x ≡ Some p → Has c p
    parent_below f = (above-parent c x p (once_apart n c r once).3 h f).1

    by : (parent_of c x ≡ Some p → StandsUnder 0 c p x) → (parent_of c x ≡ Some p → Has c p) → (path : List NodeName) →
        inclusive_ancestors c x ≡ x ∷ path → first_of (path ++ n.name ∷ []) ≡ Some p → StandsUnder k (tree n c r) p x
    by deeper there [] is f =
        let same : n.name ≡ p = same_Some _ _ f in
        let kids : children_of (tree n c r) p ≡ names_of (roots c) = ap (λ (us : Trees). names_of (roots (trees_below us))) (subtree-here n c r p same) in (
          k ∷ [],
          place-here n c r k p same,
          place-below n c r k x _ once h (place-root c 0 x (once_apart n c r once).3 h is) ∙
              ap (λ m. Some (k ∷ m ∷ [])) (zero-add _ ∙ ap (λ xs. length (items_before name_eq x xs)) (sym kids)),
        )
    by deeper there (q ∷ path) is f =
        let up : parent_of c x ≡ Some p = ap (λ l. first_of (drop 1 l)) is ∙ f in
        let w = deeper up in
        let kids : children_of (tree n c r) p ≡ children_of c p =
        ap (λ (us : Trees). names_of (roots (trees_below us))) (subtree-below n c r p once (there up)) in (
          k ∷ w.0,
          place-below n c r k p w.0 once (there up) w.1,
          place-below n c r k x _ once h w.2 ∙ ap (λ xs. Some (k ∷ (w.0 ++ length (items_before name_eq x xs) ∷ []))) (sym kids),
        )
place-child (tree n c r) k x {p} once (inr (inr h)) e =
    let f : parent_of r x ≡ Some p = ap (λ path. first_of (drop 1 path)) (sym (above-beside n c r x once h)) ∙ e in
    let there = (above-parent r x p (once_apart n c r once).4 h f).1 in
    let w = place-child r (k + 1) x (once_apart n c r once).4 h f in
    let kids : children_of (tree n c r) p ≡ children_of r p = ap (λ (us : Trees). names_of (roots (trees_below us))) (subtree-beside n c r p once there) in (
      w.0,
      place-beside n c r k p once there ∙ w.1,
      place-beside n c r k x once h ∙ (w.2 ∙ ap (λ xs. Some (w.0 ++ length (items_before name_eq x xs) ∷ [])) (sym kids)),
    )

-- ---- the root's number

-- a node's place begins with the number of its root
abbrev pub BeginsAtRoot : ℕ → Trees → NodeName → Type 0
BeginsAtRoot k ts x = (m : ℕ) × (path : List ℕ) × (place_from k ts x ≡ Some (m ∷ path)) × (place_from k ts (root_of ts x) ≡ Some (m ∷ [])) ×
    Has ts (root_of ts x)

pub place-at_root : (ts : Trees) (k : ℕ) (x : NodeName) → Once ts → Has ts x → BeginsAtRoot k ts x
place-at_root none k x once h = absurd h
place-at_root (tree n c r) k x once (inl e) =
    let same : root_of (tree n c r) x ≡ x = ap (λ path. unwrap_or (last_of path) x) (above-here n c r x e) in
    (k, [], place-here n c r k x e, place-here n c r k _ (e ∙ sym same), inl (e ∙ sym same))
place-at_root (tree n c r) k x once (inr (inl h)) =
    let w = place-present c 0 x (once_apart n c r once).3 h in
    let same : root_of (tree n c r) x ≡ n.name =
    ap (λ path. unwrap_or (last_of path) x) (above-below n c r x once h) ∙ ap (λ (o : Option NodeName). unwrap_or o x)
    (last_of-end (inclusive_ancestors c x) n.name) in
    (k, w.0 ∷ w.1, place-below n c r k x (w.0 ∷ w.1) once h w.2, place-here n c r k _ (sym same), inl (sym same))
place-at_root (tree n c r) k x once (inr (inr h)) =
    let w = place-at_root r (k + 1) x (once_apart n c r once).4 h in
    let same : root_of (tree n c r) x ≡ root_of r x = ap (λ path. unwrap_or (last_of path) x) (above-beside n c r x once h) in
    let there : Has r (root_of (tree n c r) x) = subst (Has r) (sym same) w.4 in (
      w.0,
      w.1,
      place-beside n c r k x once h ∙ w.2,
      place-beside n c r k (root_of (tree n c r) x) once there ∙ (ap (place_from (k + 1) r) same ∙ w.3),
      inr (inr there),
    )

-- ---- the same of `place_of`

module _ (ts : Trees) (once : Once ts) where
  -- a node's place, as it is known
  pub known : (x : NodeName) (path : List ℕ) → place_from 0 ts x ≡ Some path → place_of ts x ≡ path
  known x path e = ap (λ (o : Option (List ℕ)). unwrap_or o []) e

  -- a child's place
  pub path-child : (x p : NodeName) → Has ts x → parent_of ts x ≡ Some p → place_of ts x ≡ place_of ts p ++ index_of ts x ∷ []
  path-child x p h e =
      let w = place-child ts 0 x once h e in
      let index : index_of ts x ≡ length (items_before name_eq x (children_of ts p)) =
      ap (λ (o : Option NodeName). length (items_before name_eq x (option_map_or (children_of ts) o (x ∷ [])))) e in
      known x _ w.2 ∙ (ap (λ path. path ++ length (items_before name_eq x (children_of ts p)) ∷ []) (sym (known p w.0 w.1)) ∙
      ap (λ i. place_of ts p ++ i ∷ []) (sym index))

  -- a root's place
  pub path-root : (x : NodeName) → Has ts x → parent_of ts x ≡ None → (m : ℕ) × (place_of ts x ≡ m ∷ [])
  path-root x h e = (_, known x _ (place-root ts 0 x once h (above-root ts x h e)))

  -- nodes at one place are one
  pub path-same : (x y : NodeName) → Has ts x → Has ts y → place_of ts x ≡ place_of ts y → x ≡ y
  path-same x y h i e =
      let v = place-present ts 0 x once h in
      let w = place-present ts 0 y once i in
      place-same ts 0 x y record { once = once; first = h; second = i } (v.2 ∙ (ap Some (sym (known x _ v.2) ∙ (e ∙ known y _ w.2)) ∙ sym w.2))

  -- nodes of one tree stand at places with the same first number
  pub path-tree : (x y : NodeName) → Has ts x → Has ts y → same_root ts x y ≡ true → first_of (place_of ts x) ≡ first_of (place_of ts y)
  path-tree x y h i e =
      let v = place-at_root ts 0 x once h in
      let w = place-at_root ts 0 y once i in
      let same : root_of ts x ≡ root_of ts y = name_eq-true (root_of ts x) (root_of ts y) e in
      let f : Some (v.0 ∷ []) ≡ Some (w.0 ∷ []) = sym v.3 ∙ (ap (place_from 0 ts) same ∙ w.3) in
      let g : v.0 ≡ w.0 = cc in
      ap first_of (known x _ v.2) ∙ (ap Some g ∙ sym (ap first_of (known y _ w.2)))
