-- The nodes above a node stand above one another.
use Rattle.dom_base.proofs.Std.{◌≡◌, ◌⊎◌, inl, inr, Bool, true, false, not, List, [], ◌∷◌, ◌++◌, Some, None, refl, sym, ap, subst, ◌∙◌, append_assoc, filter}
use Rattle.dom_base.proofs.Std.{cases_Bool, not-true}
use Rattle.dom_model.proofs.Model.{NodeName, name_eq, first_of, last_of, items_before, Trees, none, tree, inclusive_ancestors, is_inclusive_ancestor}
use Rattle.dom_model.proofs.Model.{inclusive_descendants, name_eq-other}
use Rattle.dom_laws.specs.Within.{ahead_of, behind, beyond}
use Rattle.dom_laws.proofs.Lists.{In, In-left, In-right, In-parts, Single, Single-apart, same_or_not, name_eq-from, before-split, no_last, last_split}
use Rattle.dom_laws.proofs.Shapes.{Has, Has-above, above-here, above-below, above-beside, once_apart}
use Rattle.dom_laws.proofs.Counts.{Once}
use Rattle.dom_laws.proofs.Order.{IsWithin, all_single, here, below, splits, outside-test}

-- the items before a member of the first of two lists
before-left : (a : NodeName) (xs ys : List NodeName) → In a xs → items_before name_eq a (xs ++ ys) ≡ items_before name_eq a xs
before-left a [] ys i = absurd i
before-left a (x ∷ xs) ys i = elim (same_or_not a x) [
  | inl e ↦ rw (name_eq-from a x e) refl
  | inr other ↦ rw (name_eq-other a x other) (ap (λ zs. x ∷ zs) (before-left a xs ys (elim i [ inl e ↦ absurd (other e) | inr j ↦ j ])))
]

-- above x stand first those below a, and then a with those above it
pub above-split : (ts : Trees) (a x : NodeName) → Once ts → Has ts x → In a (inclusive_ancestors ts x)
    → inclusive_ancestors ts x ≡ items_before name_eq a (inclusive_ancestors ts x) ++ inclusive_ancestors ts a
above-split none a x once h i = absurd h
above-split (tree n c r) a x once (inl e) i = elim (rw (above-here n c r x e) at i) [
  | inl j ↦
      above-here n c r x e ∙ (sym (above-here n c r x e) ∙ (ap (inclusive_ancestors (tree n c r)) (sym j)
      ∙ ap (λ xs. xs ++ inclusive_ancestors (tree n c r) a) (sym (ap (items_before name_eq a) (above-here n c r x e) ∙ nothing_before a x j))))
  | inr j ↦ absurd j
]
  where
    nothing_before : (b y : NodeName) → b ≡ y → items_before name_eq b (y ∷ []) ≡ []
    nothing_before b y same = rw (name_eq-from b y same) refl
above-split (tree n c r) a x once (inr (inl h)) i =
    let path = inclusive_ancestors c x in
    let whole = above-below n c r x once h in
    elim (In-parts a path (n.name ∷ []) (subst (In a) whole i)) [
      | inl j ↦
          whole
          ∙ (ap (λ xs. xs ++ n.name ∷ []) (above-split c a x (once_apart n c r once).3 h j)
          ∙ (append_assoc (items_before name_eq a path) (inclusive_ancestors c a) (n.name ∷ [])
          ∙ (ap (λ xs. items_before name_eq a path ++ xs) (sym (above-below n c r a once (Has-above c a x (once_apart n c r once).3 h j)))
          ∙ ap (λ xs. xs ++ inclusive_ancestors (tree n c r) a) (sym (ap (items_before name_eq a) whole ∙ before-left a path (n.name ∷ []) j)))))
      | inr j ↦ elim j [
        | inl same ↦
            let off : In a path → ⊥ = λ k. (once_apart n c r once).0 (subst (Has c) same (Has-above c a x (once_apart n c r once).3 h k)) in
            whole
            ∙ (ap (λ xs. path ++ xs) (ap (λ y. y ∷ []) (sym same) ∙ sym (above-here n c r a (sym same)))
            ∙ ap (λ xs. xs ++ inclusive_ancestors (tree n c r) a)
            (sym (ap (items_before name_eq a) (whole ∙ ap (λ y. path ++ y ∷ []) (sym same)) ∙ before-split a path [] off)))
        | inr k ↦ absurd k
      ]
    ]
above-split (tree n c r) a x once (inr (inr h)) i =
    let whole = above-beside n c r x once h in
    let j = subst (In a) whole i in
    whole
    ∙ (above-split r a x (once_apart n c r once).4 h j
    ∙ (ap (λ xs. items_before name_eq a (inclusive_ancestors r x) ++ xs) (sym (above-beside n c r a once (Has-above r a x (once_apart n c r once).4 h j)))
    ∙ ap (λ xs. items_before name_eq a xs ++ inclusive_ancestors (tree n c r) a) (sym whole)))

-- of two members one comes first
not_both : (a b : NodeName) (xs : List NodeName) → In a (items_before name_eq b xs) → In b (items_before name_eq a xs) → ⊥
not_both a b [] i j = i
not_both a b (x ∷ xs) i j = elim (same_or_not b x) [
  | inl e ↦ rw (name_eq-from b x e) at i
  | inr other ↦ elim (same_or_not a x) [
    | inl e ↦ rw (name_eq-from a x e) at j
    | inr apart ↦ by other apart (rw (name_eq-other b x other) at i) (rw (name_eq-other a x apart) at j) (not_both a b xs)
  ]
]
  where
    by : (b ≡ x → ⊥) → (a ≡ x → ⊥) → In a (x ∷ items_before name_eq b xs) → In b (x ∷ items_before name_eq a xs) →
        (In a (items_before name_eq b xs) → In b (items_before name_eq a xs) → ⊥) → ⊥
    by other apart (inl e) q more = apart e
    by other apart (inr p) (inl e) more = other e
    by other apart (inr p) (inr q) more = more p q

-- Two nodes, and one of some trees in which each node stands once.
module _ (ts : Trees) (a b x : NodeName) (once : Once ts) (h : Has ts x) where
  -- of two nodes above x one stands above the other
  pub above-chain : In a (inclusive_ancestors ts x) → In b (inclusive_ancestors ts x) → In a (inclusive_ancestors ts b) ⊎ In b (inclusive_ancestors ts a)
  above-chain i j =
      let path = inclusive_ancestors ts x in
      elim (In-parts b (items_before name_eq a path) (inclusive_ancestors ts a) (subst (In b) (above-split ts a x once h i) j)) [
        | inl first ↦ elim (In-parts a (items_before name_eq b path) (inclusive_ancestors ts b) (subst (In a) (above-split ts b x once h j) i)) [
          | inl k ↦ absurd (not_both a b path k first)
          | inr k ↦ inl k
        ]
        | inr k ↦ inr k
      ]

  -- what stands above a node above x stands above x
  pub above-along : In a (inclusive_ancestors ts b) → In b (inclusive_ancestors ts x) → In a (inclusive_ancestors ts x)
  above-along i j = subst (In a) (sym (above-split ts b x once h j))
      (In-right a (items_before name_eq b (inclusive_ancestors ts x)) (inclusive_ancestors ts b) i)

-- ---- what is before a node, and what is beyond it, is not below it

-- the first item that a filter leaves passes it
pub first-passes : (p : NodeName → Bool) (xs : List NodeName) (y : NodeName) → first_of (filter p xs) ≡ Some y → p y ≡ true
first-passes p [] y e = cc
first-passes p (x ∷ xs) y e = elim (cases_Bool (p x)) [
  | inl yes_x ↦ by yes_x (rw yes_x at e)
  | inr no_x ↦ first-passes p xs y (rw no_x at e)
]
  where
    by : p x ≡ true → Some x ≡ Some y → p y ≡ true
    by is same = let q : x ≡ y = cc in ap p (sym q) ∙ is

-- a node before x is not in the tree of x
pub ahead-apart : {ts : Trees} {top x : NodeName} (y : NodeName) → IsWithin ts top x → In y (ahead_of ts top x) → In y (inclusive_descendants ts x) → ⊥
ahead-apart {ts} {top} {x} y w i j =
    Single-apart y (ahead_of ts top x) (inclusive_descendants ts x ++ beyond ts top x) (subst Single (splits ts top x w) (all_single ts top x w))
    i (In-left y (inclusive_descendants ts x) (beyond ts top x) j)

-- the last node before x is not below x
pub ahead-outside : (ts : Trees) (top x y : NodeName) → IsWithin ts top x → last_of (ahead_of ts top x) ≡ Some y → is_inclusive_ancestor ts x y ≡ false
ahead-outside ts top x y w e =
    let s = last_split (ahead_of ts top x) y e in
    outside-test ts x y w.once (ahead-apart y w (subst (In y) (sym s.1) (In-right y s.0 (y ∷ []) (inl refl))))

-- before a node that is not the top stands at least the top
pub some_ahead : (ts : Trees) (top x : NodeName) → IsWithin ts top top → (x ≡ top → ⊥) → last_of (ahead_of ts top x) ≡ None → ⊥
some_ahead ts top x w other e =
    let top_first = ap (items_before name_eq x) (here ts top top w) in
    empty (sym (no_last (ahead_of ts top x) e) ∙ (top_first ∙ step))
  where
    step : items_before name_eq x (top ∷ below ts top) ≡ top ∷ items_before name_eq x (below ts top)
    step = rw (name_eq-other x top other) refl

    empty : [] ≡ top ∷ items_before name_eq x (below ts top) → ⊥
    empty same = cc

-- the first node beyond x is not below x
pub beyond-outside : (ts : Trees) (top x y : NodeName) → first_of (beyond ts top x) ≡ Some y → is_inclusive_ancestor ts x y ≡ false
beyond-outside ts top x y e = not-true _ (first-passes (λ (z : NodeName). not (is_inclusive_ancestor ts x z)) (behind ts top x) y e)
