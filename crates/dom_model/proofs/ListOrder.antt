-- The order of lists of numbers.
use Rattle.dom_base.proofs.Std.{◌≡◌, ◌≢◌, ◌⊎◌, inl, inr, ℕ, ◌<◌, true, false, List, [], ◌∷◌, refl, sym, ap, ◌∙◌, arith, true≢false, ltb, eqb, ◌&&◌, cases_Bool}
use Rattle.dom_base.proofs.Std.{cases_order, or_cases, or_left, or_right, or_parts, and_parts, false_from_ne_true, lt-ltb, ltb-true, ltb-false, eqb-true}
use Rattle.dom_base.proofs.Std.{eq-eqb}
use Rattle.dom_model.specs.Names.{list_before}

-- lists are in order by their first items, or by those behind
front-less : (x y : ℕ) (xs ys : List ℕ) → list_before (x ∷ xs) (y ∷ ys) ≡ true → (x < y) ⊎ ((x ≡ y) × (list_before xs ys ≡ true))
front-less x y xs ys e = elim (or_cases (ltb x y) (eqb x y && list_before xs ys) e) [
  | inl l ↦ inl (ltb-true x y l)
  | inr h ↦ let parts = and_parts (eqb x y) (list_before xs ys) h in inr (eqb-true x y parts.0, parts.1)
]

less-front : (x y : ℕ) (xs ys : List ℕ) → (x < y) ⊎ ((x ≡ y) × (list_before xs ys ≡ true)) → list_before (x ∷ xs) (y ∷ ys) ≡ true
less-front x y xs ys (inl l) = or_left (ltb x y) (eqb x y && list_before xs ys) (lt-ltb x y l)
less-front x y xs ys (inr h) = or_right (ltb x y) (eqb x y && list_before xs ys) (ap (λ b. b && list_before xs ys) (eq-eqb x y h.0) ∙ h.1)

-- or not
front-not : (x y : ℕ) (xs ys : List ℕ) → list_before (x ∷ xs) (y ∷ ys) ≡ false → (y < x) ⊎ ((x ≡ y) × (list_before xs ys ≡ false))
front-not x y xs ys e =
    let parts = or_parts (ltb x y) (eqb x y && list_before xs ys) e in
    elim (cases_Bool (eqb x y)) [
      | inl same ↦ inr (eqb-true x y same, ap (λ b. b && list_before xs ys) (sym same) ∙ parts.1)
      | inr other ↦ inl (let l = ltb-false x y parts.0 in let off : x ≡ y → ⊥ = λ same. true≢false (sym (eq-eqb x y same) ∙ other) in omega (arith, l, off))
    ]

-- what comes before another one comes before all that do not come before that
pub before-less : (a b c : List ℕ) → list_before a b ≡ true → list_before c b ≡ false → list_before a c ≡ true
before-less [] [] c e f = absurd (true≢false (sym e))
before-less [] (y ∷ ys) [] e f = absurd (true≢false f)
before-less [] (y ∷ ys) (z ∷ zs) e f = refl
before-less (x ∷ xs) [] c e f = absurd (true≢false (sym e))
before-less (x ∷ xs) (y ∷ ys) [] e f = absurd (true≢false f)
before-less (x ∷ xs) (y ∷ ys) (z ∷ zs) e f = less-front x z xs zs (by (before-less xs ys zs) (front-less x y xs ys e) (front-not z y zs ys f))
  where
    by : (list_before xs ys ≡ true → list_before zs ys ≡ false → list_before xs zs ≡ true) → (x < y) ⊎ ((x ≡ y) × (list_before xs ys ≡ true))
        → (y < z) ⊎ ((z ≡ y) × (list_before zs ys ≡ false)) → (x < z) ⊎ ((x ≡ z) × (list_before xs zs ≡ true))
    by rest (inl l) (inl m) = inl (omega (arith, l, m))
    by rest (inl l) (inr h) = let same = h.0 in inl (omega (arith, l, same))
    by rest (inr g) (inl m) = let same = g.0 in inl (omega (arith, m, same))
    by rest (inr g) (inr h) = inr (g.0 ∙ sym h.0, rest g.1 h.1)

-- two lists do not come before each other
pub before-turned : (a b : List ℕ) → list_before a b ≡ true → list_before b a ≡ false
before-turned [] [] e = refl
before-turned [] (y ∷ ys) e = refl
before-turned (x ∷ xs) [] e = absurd (true≢false (sym e))
before-turned (x ∷ xs) (y ∷ ys) e =
    false_from_ne_true (list_before (y ∷ ys) (x ∷ xs)) (λ f. by (before-turned xs ys) (front-less x y xs ys e) (front-less y x ys xs f))
  where
    by : (list_before xs ys ≡ true → list_before ys xs ≡ false) → (x < y) ⊎ ((x ≡ y) × (list_before xs ys ≡ true))
        → (y < x) ⊎ ((y ≡ x) × (list_before ys xs ≡ true)) → ⊥
    by rest (inl l) (inl m) = omega (arith, l, m)
    by rest (inl l) (inr h) = let same = h.0 in omega (arith, l, same)
    by rest (inr g) (inl m) = let same = g.0 in omega (arith, m, same)
    by rest (inr g) (inr h) = true≢false (sym h.1 ∙ rest g.1)

-- so what comes before a list that comes before a third one comes before the third
pub before-then : (a b c : List ℕ) → list_before a b ≡ true → list_before b c ≡ true → list_before a c ≡ true
before-then a b c e f = before-less a b c e (before-turned b c f)

-- no list comes before itself
pub before-itself : (a : List ℕ) → list_before a a ≡ false
before-itself a = false_from_ne_true (list_before a a) (λ e. true≢false (sym e ∙ before-turned a a e))

-- of two different lists one comes before the other
pub before-total : (a b : List ℕ) → a ≢ b → (list_before a b ≡ true) ⊎ (list_before b a ≡ true)
before-total [] [] other = absurd (other refl)
before-total [] (y ∷ ys) other = inl refl
before-total (x ∷ xs) [] other = inr refl
before-total (x ∷ xs) (y ∷ ys) other = elim (cases_order x y) [
  | inl same ↦ elim (before-total xs ys (λ h. other (ap (λ z. z ∷ xs) same ∙ ap (λ zs. y ∷ zs) h))) [
    | inl e ↦ inl (less-front x y xs ys (inr (same, e)))
    | inr e ↦ inr (less-front y x ys xs (inr (sym same, e)))
  ]
  | inr (inl l) ↦ inl (less-front x y xs ys (inl l))
  | inr (inr l) ↦ inr (less-front y x ys xs (inl l))
]
