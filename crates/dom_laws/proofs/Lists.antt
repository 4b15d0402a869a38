-- Lists of names: their members, their first places, and how they split at a name.
use Rattle.dom_base.proofs.Std.{◌≡◌, ◌⊎◌, inl, inr, ℕ, zero, suc, Bool, true, false, List, [], ◌∷◌, ◌++◌, drop, Option, Some, None, refl, sym, ap, subst, ◌∙◌}
use Rattle.dom_base.proofs.Std.{true≢false, filter, last_or, AllByRecursion, append-nil, filter-append, cases_Bool, or_cases, or_left, or_right}
use Rattle.dom_base.proofs.Std.{false_from_ne_true, both_ways}
use Rattle.dom_model.proofs.Model.{NodeName, name_eq, is_in, items_before, items_after, first_of, last_of, name_eq-same, name_eq-true, name_eq-other}

-- the test at one name
pub name_eq-from : (x y : NodeName) → x ≡ y → name_eq x y ≡ true
name_eq-from x y e = ap (name_eq x) (sym e) ∙ name_eq-same x

-- two names are the same or not
pub same_or_not : (x y : NodeName) → (x ≡ y) ⊎ (x ≡ y → ⊥)
same_or_not x y = elim (cases_Bool (name_eq x y)) [
  | inl e ↦ inl (name_eq-true x y e)
  | inr e ↦ inr (λ same. both_ways _ e (name_eq-from x y same))
]

-- x is a member
abbrev pub In : NodeName → List NodeName → Type 0
In x [] = ⊥
In x (y ∷ ys) = (x ≡ y) ⊎ In x ys

-- a member passes the test of members
pub is_in-from : (x : NodeName) (xs : List NodeName) → In x xs → is_in name_eq x xs ≡ true
is_in-from x [] h = absurd h
is_in-from x (y ∷ ys) (inl e) = or_left (name_eq x y) _ (name_eq-from x y e)
is_in-from x (y ∷ ys) (inr h) = or_right (name_eq x y) _ (is_in-from x ys h)

-- and the other way round
pub In-from : (x : NodeName) (xs : List NodeName) → is_in name_eq x xs ≡ true → In x xs
In-from x [] h = true≢false (sym h)
In-from x (y ∷ ys) h = elim (or_cases (name_eq x y) _ h) [ inl e ↦ inl (name_eq-true x y e) | inr i ↦ inr (In-from x ys i) ]

-- a name that is no member fails it
pub is_in-not : (x : NodeName) (xs : List NodeName) → (In x xs → ⊥) → is_in name_eq x xs ≡ false
is_in-not x xs h = false_from_ne_true _ (λ e. h (In-from x xs e))

-- and the other way round
pub In-not : (x : NodeName) (xs : List NodeName) → is_in name_eq x xs ≡ false → In x xs → ⊥
In-not x xs e h = both_ways _ e (is_in-from x xs h)

-- a member of the first of two lists
pub In-left : (x : NodeName) (xs ys : List NodeName) → In x xs → In x (xs ++ ys)
In-left x [] ys h = absurd h
In-left x (a ∷ xs) ys (inl e) = inl e
In-left x (a ∷ xs) ys (inr h) = inr (In-left x xs ys h)

-- a member of the second
pub In-right : (x : NodeName) (xs ys : List NodeName) → In x ys → In x (xs ++ ys)
In-right x [] ys h = h
In-right x (a ∷ xs) ys h = inr (In-right x xs ys h)

-- a member of both is one of either
pub In-parts : (x : NodeName) (xs ys : List NodeName) → In x (xs ++ ys) → In x xs ⊎ In x ys
In-parts x [] ys h = inr h
In-parts x (a ∷ xs) ys (inl e) = inl (inl e)
In-parts x (a ∷ xs) ys (inr h) = elim (In-parts x xs ys h) [ inl i ↦ inl (inr i) | inr i ↦ inr i ]

-- no member stands twice
abbrev pub Single : List NodeName → Type 0
Single [] = Unit {0}
Single (x ∷ xs) = (In x xs → ⊥) × Single xs

-- so it is in the second of two lists
pub Single-right : (xs ys : List NodeName) → Single (xs ++ ys) → Single ys
Single-right [] ys s = s
Single-right (x ∷ xs) ys s = Single-right xs ys s.1

-- and they have no common member
pub Single-apart : (x : NodeName) (xs ys : List NodeName) → Single (xs ++ ys) → In x xs → In x ys → ⊥
Single-apart x [] ys s h i = h
Single-apart x (a ∷ xs) ys s (inl e) i = s.0 (In-right a xs ys (subst (λ b. In b ys) e i))
Single-apart x (a ∷ xs) ys s (inr h) i = Single-apart x xs ys s.1 h i

-- a list splits at a member
pub split_at : (x : NodeName) (xs : List NodeName) → In x xs → xs ≡ items_before name_eq x xs ++ x ∷ items_after name_eq x xs
split_at x [] h = absurd h
split_at x (y ∷ ys) h = elim (same_or_not x y) [
  | inl e ↦ rw (name_eq-from x y e) (ap (λ z. z ∷ ys) (sym e))
  | inr other ↦ rw (name_eq-other x y other) (ap (λ zs. y ∷ zs) (split_at x ys (elim h [ inl e ↦ absurd (other e) | inr i ↦ i ])))
]

-- and in one way
pub before-split : (x : NodeName) (front back : List NodeName) → (In x front → ⊥) → items_before name_eq x (front ++ x ∷ back) ≡ front
before-split x [] back apart = rw (name_eq-same x) refl
before-split x (y ∷ front) back apart = rw (name_eq-other x y (λ e. apart (inl e))) (ap (λ zs. y ∷ zs) (before-split x front back (λ h. apart (inr h))))

-- the items behind a name, by the split
pub after-split : (x : NodeName) (front back : List NodeName) → (In x front → ⊥) → items_after name_eq x (front ++ x ∷ back) ≡ back
after-split x [] back apart = rw (name_eq-same x) refl
after-split x (y ∷ front) back apart = rw (name_eq-other x y (λ e. apart (inl e))) (after-split x front back (λ h. apart (inr h)))

-- a name is not before itself
pub not_before : (x : NodeName) (xs : List NodeName) → In x (items_before name_eq x xs) → ⊥
not_before x [] h = h
not_before x (y ∷ ys) h = elim (same_or_not x y) [
  | inl e ↦ rw (name_eq-from x y e) at h
  | inr other ↦ elim (rw (name_eq-other x y other) at h) [ inl e ↦ other e | inr i ↦ not_before x ys i ]
]

-- what is before a name is a member
pub before-in : (x y : NodeName) (xs : List NodeName) → In y (items_before name_eq x xs) → In y xs
before-in x y [] h = h
before-in x y (z ∷ zs) h = elim (same_or_not x z) [
  | inl e ↦ absurd (rw (name_eq-from x z e) at h)
  | inr other ↦ elim (rw (name_eq-other x z other) at h) [ inl e ↦ inl e | inr i ↦ inr (before-in x y zs i) ]
]

-- what is behind a name is a member
pub after-in : (x y : NodeName) (xs : List NodeName) → In y (items_after name_eq x xs) → In y xs
after-in x y [] h = h
after-in x y (z ∷ zs) h = elim (same_or_not x z) [
  | inl e ↦ inr (rw (name_eq-from x z e) at h)
  | inr other ↦ inr (after-in x y zs (rw (name_eq-other x z other) at h))
]

-- filters
pub filter-none : (p : NodeName → Bool) (xs : List NodeName) → ((y : NodeName) → In y xs → p y ≡ false) → filter p xs ≡ []
filter-none p [] h = refl
filter-none p (x ∷ xs) h = rw (h x (inl refl)) (filter-none p xs (λ y i. h y (inr i)))

-- a test that all members pass leaves all
pub filter-all : (p : NodeName → Bool) (xs : List NodeName) → ((y : NodeName) → In y xs → p y ≡ true) → filter p xs ≡ xs
filter-all p [] h = refl
filter-all p (x ∷ xs) h = rw (h x (inl refl)) (ap (λ zs. x ∷ zs) (filter-all p xs (λ y i. h y (inr i))))

-- tests that agree leave the same
pub filter-same : (p q : NodeName → Bool) (xs : List NodeName) → ((y : NodeName) → In y xs → p y ≡ q y) → filter p xs ≡ filter q xs
filter-same p q [] h = refl
filter-same p q (x ∷ xs) h = rw (h x (inl refl), filter-same p q xs (λ y i. h y (inr i))) refl

-- a first item that passes stays
pub filter-yes : (p : NodeName → Bool) (x : NodeName) (xs : List NodeName) → p x ≡ true → filter p (x ∷ xs) ≡ x ∷ filter p xs
filter-yes p x xs e = rw e refl

-- one that does not goes
pub filter-no : (p : NodeName → Bool) (x : NodeName) (xs : List NodeName) → p x ≡ false → filter p (x ∷ xs) ≡ filter p xs
filter-no p x xs e = rw e refl

-- first and last items
pub last_of-end : (xs : List NodeName) (x : NodeName) → last_of (xs ++ x ∷ []) ≡ Some x
last_of-end xs x = by None xs
  where
    by : (o : Option NodeName) (ys : List NodeName) → last_or o (ys ++ x ∷ []) ≡ Some x
    by o [] = refl
    by o (y ∷ ys) = by (Some y) ys

-- a list without a first item is empty
pub no_first : (xs : List NodeName) → first_of xs ≡ None → xs ≡ []
no_first [] e = refl
no_first (x ∷ xs) e = cc

-- a list with a first item
pub first_split : (xs : List NodeName) (x : NodeName) → first_of xs ≡ Some x → (ys : List NodeName) × (xs ≡ x ∷ ys)
first_split [] x e = cc
first_split (y ∷ ys) x e = (ys, ap (λ z. z ∷ ys) cc)

-- a list with a last item
pub last_split : (xs : List NodeName) (x : NodeName) → last_of xs ≡ Some x → (ys : List NodeName) × (xs ≡ ys ++ x ∷ [])
last_split [] x e = cc
last_split (y ∷ []) x e = ([], ap (λ z. z ∷ []) cc)
last_split (y ∷ z ∷ zs) x e = let w = last_split (z ∷ zs) x e in (y ∷ w.0, ap (λ vs. y ∷ vs) w.1)

-- a list without a last item is empty
pub no_last : (xs : List NodeName) → last_of xs ≡ None → xs ≡ []
no_last xs = by None xs
  where
    some : (y : NodeName) (ys : List NodeName) → last_or (Some y) ys ≡ None → ⊥
    some y [] e = cc
    some y (z ∷ zs) e = some z zs e

    by : (o : Option NodeName) (ys : List NodeName) → last_or o ys ≡ None → ys ≡ []
    by o [] e = refl
    by o (y ∷ ys) e = absurd (some y ys e)

-- ---- searches

-- what a search passes
pub first-hit : (p : NodeName → Bool) (x : NodeName) (xs : List NodeName) → p x ≡ true → first_of (filter p (x ∷ xs)) ≡ Some x
first-hit p x xs e = ap first_of (filter-yes p x xs e)

-- a first node that fails is passed
pub first-miss : (p : NodeName → Bool) (x : NodeName) (xs ys : List NodeName) → p x ≡ false → xs ≡ ys → first_of (filter p (x ∷ xs)) ≡ first_of (filter p ys)
first-miss p x xs ys e is = ap first_of (filter-no p x xs e ∙ ap (filter p) is)

-- a last node that passes is found
pub last-hit : (p : NodeName → Bool) (xs : List NodeName) (x : NodeName) → p x ≡ true → last_of (filter p (xs ++ x ∷ [])) ≡ Some x
last-hit p xs x e = ap last_of (filter-append p xs (x ∷ []) ∙ ap (λ ys. filter p xs ++ ys) (filter-yes p x [] e)) ∙ last_of-end (filter p xs) x

-- one that fails is passed
pub last-miss : (p : NodeName → Bool) (xs : List NodeName) (x : NodeName) → p x ≡ false → filter p (xs ++ x ∷ []) ≡ filter p xs
last-miss p xs x e = filter-append p xs (x ∷ []) ∙ (ap (λ ys. filter p xs ++ ys) (filter-no p x [] e) ∙ append-nil (filter p xs))

-- what holds of all items holds of those behind a place
pub all_drop : (P : ℕ → Type 0) (i : ℕ) (xs : List ℕ) → AllByRecursion P xs → AllByRecursion P (drop i xs)
all_drop P zero xs h = h
all_drop P (suc i) [] h = tt
all_drop P (suc i) (x ∷ xs) h = all_drop P i xs h.1
