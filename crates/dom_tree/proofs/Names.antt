-- The tests on names, and the order of names.
use Rattle.dom_base.proofs.Std.{◌≡◌, ◌⊎◌, inl, inr, ℕ, ◌<◌, List, [], ◌∷◌, true, false, cond, ltb, refl, sym, ap, ◌∙◌, subst, arith, true≢false, and_parts}
use Rattle.dom_base.proofs.Std.{and_from, or_cases, or_left, or_right, lt-ltb, ltb-true, cases_order, cases_Bool, false_from_ne_true}
use Rattle.dom_model.proofs.Model.{Owner, Page, Component, OwnerPath, NodeName, owner_eq, owner_place, list_before, name_before, owner_eq-same, owner_eq-true}
use Rattle.dom_model.proofs.Model.{owner_eq-false, before-itself, before-then, before-total, before-turned}

-- owners at one place are one
owner_place-same : (o p : Owner) → owner_place o ≡ owner_place p → o ≡ p
owner_place-same Page Page e = refl
owner_place-same Page (Component k) e = cc
owner_place-same (Component j) Page e = cc
owner_place-same (Component j) (Component k) e = ap Component (ap (path_at j) e)
  where
    -- the path of a place
    path_at : OwnerPath → List ℕ → OwnerPath
    path_at q [] = q
    path_at q (d ∷ parts) = record { depth = d; parts = parts }

-- names with the same owner and number are one
pub same_parts : (x y : NodeName) → x.owner ≡ y.owner → x.number ≡ y.number → x ≡ y
same_parts x y o n =
    let joined : Owner → ℕ → NodeName = λ p k. record { owner = p; number = k } in
    ap (λ p. joined p x.number) o ∙ ap (joined y.owner) n

-- whether an owner comes before another one
abbrev OwnerBefore : Owner → Owner → Type 0
OwnerBefore o p = list_before (owner_place o) (owner_place p) ≡ true

-- no owner comes before itself
not_itself : (o p : Owner) → o ≡ p → OwnerBefore o p → ⊥
not_itself o p same h = true≢false (sym h ∙ (ap (λ q. list_before (owner_place q) (owner_place p)) same ∙ before-itself (owner_place p)))

-- what it means that a name stands before another
IsBefore : NodeName → NodeName → Type 0
IsBefore x y = OwnerBefore x.owner y.owner ⊎ ((x.owner ≡ y.owner) × (x.number < y.number))

-- what a true test of the order means
name_before-true : (x y : NodeName) → name_before x y ≡ true → IsBefore x y
unfolding IsBefore
name_before-true x y e = elim (or_cases (list_before (owner_place x.owner) (owner_place y.owner)) _ e) [
  | inl h ↦ inl h
  | inr h ↦ let parts = and_parts (owner_eq x.owner y.owner) (ltb x.number y.number) h in
      inr (owner_eq-true x.owner y.owner parts.0, ltb-true _ _ parts.1)
]

-- and what makes it true
name_before-from : (x y : NodeName) → IsBefore x y → name_before x y ≡ true
unfolding IsBefore
name_before-from x y (inl h) = or_left (list_before (owner_place x.owner) (owner_place y.owner)) _ h
name_before-from x y (inr h) =
    or_right (list_before (owner_place x.owner) (owner_place y.owner)) _
    (and_from _ _ (ap (owner_eq x.owner) (sym h.0) ∙ owner_eq-same x.owner) (lt-ltb _ _ h.1))

-- a name before one that is before a third is before the third
pub name_before-trans : (x y z : NodeName) → name_before x y ≡ true → name_before y z ≡ true → name_before x z ≡ true
unfolding IsBefore
name_before-trans x y z e f = name_before-from x z (along (name_before-true x y e) (name_before-true y z f))
  where
    along : IsBefore x y → IsBefore y z → IsBefore x z
    along (inl h) (inl i) = inl (before-then (owner_place x.owner) (owner_place y.owner) (owner_place z.owner) h i)
    along (inl h) (inr i) = inl (subst (OwnerBefore x.owner) i.0 h)
    along (inr h) (inl i) = inl (subst (λ o. OwnerBefore o z.owner) (sym h.0) i)
    along (inr h) (inr i) = inr (h.0 ∙ i.0, omega arith)

-- no name is before one that is before it
pub name_before-not_both : (x y : NodeName) → name_before x y ≡ true → name_before y x ≡ true → ⊥
unfolding IsBefore
name_before-not_both x y e f = along (name_before-true x y e) (name_before-true y x f)
  where
    along : IsBefore x y → IsBefore y x → ⊥
    along (inl h) (inl i) = true≢false (sym i ∙ before-turned (owner_place x.owner) (owner_place y.owner) h)
    along (inl h) (inr i) = not_itself x.owner y.owner (sym i.0) h
    along (inr h) (inl i) = not_itself y.owner x.owner (sym h.0) i
    along (inr h) (inr i) = omega arith

-- of two different names one is before the other
pub name_before-total : (x y : NodeName) → (x ≡ y → ⊥) → (name_before x y ≡ true) ⊎ (name_before y x ≡ true)
unfolding IsBefore
name_before-total x y other = elim (cases_Bool (owner_eq x.owner y.owner)) [
  | inl o ↦ numbers (owner_eq-true x.owner y.owner o) (cases_order x.number y.number)
  | inr o ↦
      owners (before-total (owner_place x.owner) (owner_place y.owner)
      (λ same. owner_eq-false x.owner y.owner o (owner_place-same x.owner y.owner same)))
]
  where
    numbers : x.owner ≡ y.owner → (x.number ≡ y.number) ⊎ ((x.number < y.number) ⊎ (y.number < x.number))
        → (name_before x y ≡ true) ⊎ (name_before y x ≡ true)
    numbers o (inl n) = absurd (other (same_parts x y o n))
    numbers o (inr (inl n)) = inl (name_before-from x y (inr (o, n)))
    numbers o (inr (inr n)) = inr (name_before-from y x (inr (sym o, n)))

    owners : OwnerBefore x.owner y.owner ⊎ OwnerBefore y.owner x.owner → (name_before x y ≡ true) ⊎ (name_before y x ≡ true)
    owners (inl h) = inl (name_before-from x y (inl h))
    owners (inr h) = inr (name_before-from y x (inl h))

-- so exactly one of two different names is before the other
pub name_before-turned : (x y : NodeName) → (x ≡ y → ⊥) → name_before y x ≡ cond (name_before x y) false true
name_before-turned x y other = by (name_before-total x y other)
  where
    by : (name_before x y ≡ true) ⊎ (name_before y x ≡ true) → name_before y x ≡ cond (name_before x y) false true
    by (inl e) = let f : name_before y x ≡ false = false_from_ne_true _ (λ h. name_before-not_both x y e h) in f ∙ sym (ap (λ b. cond b false true) e)
    by (inr e) = let f : name_before x y ≡ false = false_from_ne_true _ (λ h. name_before-not_both x y h e) in e ∙ sym (ap (λ b. cond b false true) f)
