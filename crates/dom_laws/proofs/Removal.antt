-- What stands above a node after the tree of another one was taken out.
use Rattle.dom_base.proofs.Std.{◌≡◌, ◌⊎◌, inl, inr, true, false, [], ◌∷◌, refl, sym, ap, subst, ◌∙◌, if◌then◌else◌, cases_Bool, both_ways, true_from_ne_false}
use Rattle.dom_model.proofs.Model.{NodeName, name_eq, name_before, Trees, none, tree, Node, subtree, on_top, inclusive_ancestors, is_inclusive_ancestor}
use Rattle.dom_model.proofs.Model.{without, put_root, taken_out, name_eq-other}
use Rattle.dom_laws.proofs.Lists.{In, In-from, is_in-from, same_or_not, name_eq-from}
use Rattle.dom_laws.proofs.Shapes.{Has, IsTreeOf, has_or_not, subtree-here, subtree-below, subtree-beside, subtree-absent, subtree-present}
use Rattle.dom_laws.proofs.Shapes.{once_apart, subtree-within, Has-subtree, above-here, above-beside, above-absent, above-present, above-from_below}
use Rattle.dom_laws.proofs.Shapes.{once_joined, below-from_above}
use Rattle.dom_laws.proofs.Counts.{Once, once_subtree}
use Rattle.dom_laws.proofs.Order.{IsWithin, stands_in}

-- what is left stood there before
pub Has-without : (ts : Trees) (x y : NodeName) → Has (without x ts) y → Has ts y
Has-without none x y h = h
Has-without (tree n c r) x y h = elim (same_or_not n.name x) [
  | inl e ↦ inr (inr (Has-without r x y (rw (name_eq-from n.name x e) at h)))
  | inr other ↦ by (rw (name_eq-other n.name x other) at h) (Has-without c x y) (Has-without r x y)
]
  where
    by : (n.name ≡ y) ⊎ (Has (without x c) y ⊎ Has (without x r) y) → (Has (without x c) y → Has c y) → (Has (without x r) y → Has r y) → Has (tree n c r) y
    by (inl e) in_c in_r = inl e
    by (inr (inl i)) in_c in_r = inr (inl (in_c i))
    by (inr (inr i)) in_c in_r = inr (inr (in_r i))

-- those that are left stand once too
pub Once-without : (ts : Trees) (x : NodeName) → Once ts → Once (without x ts)
Once-without none x once = once
Once-without (tree n c r) x once = elim (same_or_not n.name x) [
  | inl e ↦ rw (name_eq-from n.name x e) (Once-without r x (once_apart n c r once).4)
  | inr other ↦
      let apart = once_apart n c r once in
      rw (name_eq-other n.name x other) (once_joined n (without x c) (without x r) (
        λ h. apart.0 (Has-without c x n.name h),
        λ h. apart.1 (Has-without r x n.name h),
        λ y h i. apart.2 y (Has-without c x y h) (Has-without r x y i),
        Once-without c x apart.3,
        Once-without r x apart.4,
      ))
]

-- where the tree of x is
abbrev Place : Node → Trees → Trees → NodeName → Type 0
Place n c r x = (n.name ≡ x) ⊎ (Has c x ⊎ (Has r x ⊎ (Has (tree n c r) x → ⊥)))

place_of : (n : Node) (c r : Trees) (x : NodeName) → Place n c r x
place_of n c r x = by (has_or_not (tree n c r) x)
  where
    by : Has (tree n c r) x ⊎ (Has (tree n c r) x → ⊥) → Place n c r x
    by (inl (inl e)) = inl e
    by (inl (inr (inl h))) = inr (inl h)
    by (inl (inr (inr h))) = inr (inr (inl h))
    by (inr off) = inr (inr (inr off))

-- and is not in the tree that went
pub without-apart : (ts : Trees) (x y : NodeName) → Once ts → Has (without x ts) y → Has (subtree ts x) y → ⊥
without-apart none x y once h i = h
without-apart (tree n c r) x y once h i = elim (place_of n c r x) [
  | inl e ↦ here e (rw (name_eq-from n.name x e) at h) (subst (λ (us : Trees). Has us y) (subtree-here n c r x e) i)
  | inr p ↦ elim p [
    | inl at ↦
        let in_c : Has (subtree c x) y = subst (λ (us : Trees). Has us y) (subtree-below n c r x once at) i in
        let apart = once_apart n c r once in
        below (λ e. apart.0 (subst (Has c) (sym e) at)) (Has-subtree c x y apart.3 in_c) (λ g. without-apart c x y apart.3 g in_c)
    | inr q ↦ elim q [
      | inl at ↦
          let in_r : Has (subtree r x) y = subst (λ (us : Trees). Has us y) (subtree-beside n c r x once at) i in
          let apart = once_apart n c r once in
          beside (λ e. apart.1 (subst (Has r) (sym e) at)) (Has-subtree r x y apart.4 in_r) (λ g. without-apart r x y apart.4 g in_r)
      | inr off ↦ subst (λ (us : Trees). Has us y) (subtree-absent (tree n c r) x off) i
    ]
  ]
]
  where
    here : n.name ≡ x → Has (without x r) y → Has (tree n c none) y → ⊥
    here e g (inl j) = (once_apart n c r once).1 (subst (Has r) (sym j) (Has-without r x y g))
    here e g (inr (inl j)) = (once_apart n c r once).2 y j (Has-without r x y g)
    here e g (inr (inr j)) = j

    below : (n.name ≡ x → ⊥) → Has c y → (Has (without x c) y → ⊥) → ⊥
    below other in_c apart = by (rw (name_eq-other n.name x other) at h)
      where
        by : (n.name ≡ y) ⊎ (Has (without x c) y ⊎ Has (without x r) y) → ⊥
        by (inl e) = (once_apart n c r once).0 (subst (Has c) (sym e) in_c)
        by (inr (inl g)) = apart g
        by (inr (inr g)) = (once_apart n c r once).2 y in_c (Has-without r x y g)

    beside : (n.name ≡ x → ⊥) → Has r y → (Has (without x r) y → ⊥) → ⊥
    beside other in_r apart = by (rw (name_eq-other n.name x other) at h)
      where
        by : (n.name ≡ y) ⊎ (Has (without x c) y ⊎ Has (without x r) y) → ⊥
        by (inl e) = (once_apart n c r once).1 (subst (Has r) (sym e) in_r)
        by (inr (inl g)) = (once_apart n c r once).2 y (Has-without c x y g) in_r
        by (inr (inr g)) = apart g

-- a tree that x is not in has none of x
no-subtree : (ts : Trees) (x y : NodeName) → (Has ts x → ⊥) → Has (subtree ts x) y → ⊥
no-subtree ts x y off h = subst (λ (us : Trees). Has us y) (subtree-absent ts x off) h

-- above a node that is not in the tree that goes stands what stood there
pub above-without : (ts : Trees) (x y : NodeName) → Once ts → Has ts y → (Has (subtree ts x) y → ⊥) →
    inclusive_ancestors (without x ts) y ≡ inclusive_ancestors ts y
above-without none x y once h off = refl
above-without (tree n c r) x y once (inl g) off = elim (same_or_not n.name x) [
  | inl e ↦ absurd (off (subst (λ (us : Trees). Has us y) (sym (subtree-here n c r x e)) (inl g)))
  | inr other ↦ rw (name_eq-other n.name x other) (above-here n (without x c) (without x r) y g ∙ sym (above-here n c r y g))
]
above-without (tree n c r) x y once (inr (inl g)) off = elim (same_or_not n.name x) [
  | inl e ↦ absurd (off (subst (λ (us : Trees). Has us y) (sym (subtree-here n c r x e)) (inr (inl g))))
  | inr other ↦
      rw (name_eq-other n.name x other)
      (by (above-without c x y (once_apart n c r once).3 g (λ i. elim (has_or_not c x)
      [ inl at ↦ off (subst (λ (us : Trees). Has us y) (sym (subtree-below n c r x once at)) i) | inr away ↦ no-subtree c x y away i ])))
]
  where
    by : inclusive_ancestors (without x c) y ≡ inclusive_ancestors c y →
        inclusive_ancestors (tree n (without x c) (without x r)) y ≡ inclusive_ancestors (tree n c r) y
    by same =
        let w = above-present c y g in
        rw (name_eq-other n.name y (λ e. (once_apart n c r once).0 (subst (Has c) (sym e) g)))
        (ap (λ path. on_top path n.name (inclusive_ancestors (without x r) y)) (same ∙ w.1) ∙
        sym (ap (λ path. on_top path n.name (inclusive_ancestors r y)) w.1))
above-without (tree n c r) x y once (inr (inr g)) off = elim (same_or_not n.name x) [
  | inl e ↦
      rw (name_eq-from n.name x e)
      (above-without r x y (once_apart n c r once).4 g (λ i. no-subtree r x y (λ at. (once_apart n c r once).1 (subst (Has r) (sym e) at)) i) ∙
      sym (above-beside n c r y once g))
  | inr other ↦
      rw (name_eq-other n.name x other)
      (by (above-without r x y (once_apart n c r once).4 g (λ i. elim (has_or_not r x)
      [ inl at ↦ off (subst (λ (us : Trees). Has us y) (sym (subtree-beside n c r x once at)) i) | inr away ↦ no-subtree r x y away i ])))
]
  where
    by : inclusive_ancestors (without x r) y ≡ inclusive_ancestors r y →
        inclusive_ancestors (tree n (without x c) (without x r)) y ≡ inclusive_ancestors (tree n c r) y
    by same =
        rw (name_eq-other n.name y (λ e. (once_apart n c r once).1 (subst (Has r) (sym e) g)))
        (ap (λ path. on_top path n.name (inclusive_ancestors (without x r) y))
        (above-absent (without x c) y (λ i. (once_apart n c r once).2 y (Has-without c x y i) g))
        ∙ (same ∙ sym (ap (λ path. on_top path n.name (inclusive_ancestors r y)) (above-absent c y (λ i. (once_apart n c r once).2 y i g)))))

-- above a node of the first of some trees
pub above-in_first : (m : Node) (d ts : Trees) (y : NodeName) → Has (tree m d none) y →
    inclusive_ancestors (tree m d ts) y ≡ inclusive_ancestors (tree m d none) y
above-in_first m d ts y h = by (same_or_not m.name y) h
  where
    by : (m.name ≡ y) ⊎ (m.name ≡ y → ⊥) → Has (tree m d none) y → inclusive_ancestors (tree m d ts) y ≡ inclusive_ancestors (tree m d none) y
    by (inl same) g = above-here m d ts y same ∙ sym (above-here m d none y same)
    by (inr other) (inl same) = absurd (other same)
    by (inr other) (inr (inl i)) =
        let w = above-present d y i in
        rw (name_eq-other m.name y other)
        (ap (λ path. on_top path m.name (inclusive_ancestors ts y)) w.1 ∙ sym (ap (λ path. on_top path m.name []) w.1))
    by (inr other) (inr (inr i)) = absurd i

-- and of one behind it
pub above-behind_first : (m : Node) (d ts : Trees) (y : NodeName) → (Has (tree m d none) y → ⊥) → inclusive_ancestors (tree m d ts) y ≡ inclusive_ancestors ts y
above-behind_first m d ts y off =
    ap (λ b. if b then y ∷ [] else on_top (inclusive_ancestors d y) m.name (inclusive_ancestors ts y)) (name_eq-other m.name y (λ same. off (inl same)))
    ∙ ap (λ path. on_top path m.name (inclusive_ancestors ts y)) (above-absent d y (λ i. off (inr (inl i))))

-- A tree put among the roots, at the place of a name.
module _ (x : NodeName) (m : Node) (d : Trees) where
  -- a tree among the roots: above a node of the others
  pub above-put_others : (ts : Trees) (y : NodeName) → (Has (tree m d none) y → ⊥) →
      inclusive_ancestors (put_root x (tree m d none) ts) y ≡ inclusive_ancestors ts y
  above-put_others none y off = above-absent (tree m d none) y off
  above-put_others (tree n c r) y off = elim (cases_Bool (name_before x n.name)) [
    | inl e ↦ rw e (above-behind_first m d (tree n c r) y off)
    | inr e ↦ rw e (ap (λ path. if name_eq n.name y then y ∷ [] else on_top (inclusive_ancestors c y) n.name path) (above-put_others r y off))
  ]

  -- and above a node of its own
  above-put_own : (ts : Trees) (y : NodeName) → Has (tree m d none) y → (Has ts y → ⊥) →
      inclusive_ancestors (put_root x (tree m d none) ts) y ≡ inclusive_ancestors (tree m d none) y
  above-put_own none y h off = refl
  above-put_own (tree n c r) y h off = elim (cases_Bool (name_before x n.name)) [
    | inl e ↦ rw e (above-in_first m d (tree n c r) y h)
    | inr e ↦ rw e (later (name_eq-other n.name y (λ same. off (inl same))) (above-absent c y (λ i. off (inr (inl i)))) ∙
        above-put_own r y h (λ i. off (inr (inr i))))
  ]
    where
      later : name_eq n.name y ≡ false → inclusive_ancestors c y ≡ [] →
          inclusive_ancestors (tree n c (put_root x (tree m d none) r)) y ≡ inclusive_ancestors (put_root x (tree m d none) r) y
      later no_n empty =
          ap (λ b. if b then y ∷ [] else on_top (inclusive_ancestors c y) n.name (inclusive_ancestors (put_root x (tree m d none) r) y)) no_n
          ∙ ap (λ path. on_top path n.name (inclusive_ancestors (put_root x (tree m d none) r) y)) empty

-- a node stays in another one's tree, unless it goes with the tree that is taken out and the other does not
pub stays : {ts : Trees} {top y : NodeName} (x : NodeName) → Has ts x → IsWithin ts top y →
    (is_inclusive_ancestor ts x top ≡ false → is_inclusive_ancestor ts x y ≡ false) → is_inclusive_ancestor (taken_out x ts) top y ≡ true
stays {ts} {top} {y} x at_x w left = by (subtree-present ts x at_x) (has_or_not (subtree ts x) y)
  where
    above : In top (inclusive_ancestors ts y)
    above = above-from_below ts top y w.once w.top_stands w.stands

    inner : Has (subtree ts x) y → In top (inclusive_ancestors (subtree ts x) y)
    inner i =
        let above_y : is_inclusive_ancestor ts x y ≡ true = is_in-from x (inclusive_ancestors ts y) (above-from_below ts x y w.once at_x i) in
        let above_top : is_inclusive_ancestor ts x top ≡ true = true_from_ne_false _ (λ e. both_ways _ (left e) above_y) in
        let at_top = below-from_above ts x top w.once w.top_stands (In-from x (inclusive_ancestors ts top) above_top) in
        above-from_below (subtree ts x) top y (once_subtree ts x w.once) at_top
        (subst (λ (us : Trees). Has us y) (sym (subtree-within ts x top w.once at_x at_top)) w.stands)

    by : IsTreeOf x (subtree ts x) → Has (subtree ts x) y ⊎ (Has (subtree ts x) y → ⊥) → is_inclusive_ancestor (taken_out x ts) top y ≡ true
    by t (inl i) =
        is_in-from top (inclusive_ancestors (taken_out x ts) y)
        (subst (In top) (sym (ap (λ (us : Trees). inclusive_ancestors (put_root x us (without x ts)) y) t.2
        ∙ (above-put_own x t.0 t.1 (without x ts) y (subst (λ (us : Trees). Has us y) t.2 i) (λ g. without-apart ts x y w.once g i) ∙
        ap (λ (us : Trees). inclusive_ancestors us y) (sym t.2)))) (inner i))
    by t (inr off) =
        is_in-from top (inclusive_ancestors (taken_out x ts) y)
        (subst (In top) (sym (ap (λ (us : Trees). inclusive_ancestors (put_root x us (without x ts)) y) t.2
        ∙ (above-put_others x t.0 t.1 (without x ts) y (λ i. off (subst (λ (us : Trees). Has us y) (sym t.2) i)) ∙
        above-without ts x y w.once (stands_in ts top y w) off))) above)
