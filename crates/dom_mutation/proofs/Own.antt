-- What cursors read of an owner's nodes in the trees of all owners is what they read in the owner's own trees.
use Rattle.dom_mutation.proofs.Cited.{◌≡◌, Bool, true, false, ◌&&◌, ◌||◌, List, [], ◌∷◌, ◌++◌, Option, Some, refl, ap, subst, ◌∙◌, inl, inr, filter, find, drop}
use Rattle.dom_mutation.proofs.Cited.{if◌then◌else◌, list_any, list_all, last_or, none-some, same_Some, NodeName, name_eq, items_before, first_of, last_of, In}
use Rattle.dom_mutation.proofs.Cited.{Each}

-- ---- lists whose items two tests treat alike

pub filter_same : (p q : NodeName → Bool) (xs : List NodeName) → Each (λ y. p y ≡ q y) xs → filter p xs ≡ filter q xs
filter_same p q [] h = refl
filter_same p q (x ∷ xs) h = ap (λ b. if b then x ∷ filter p xs else filter p xs) h.0 ∙ ap (λ ys. if q x then x ∷ ys else ys) (filter_same p q xs h.1)

pub each_in : (P : NodeName → Type 0) (xs : List NodeName) → ((y : NodeName) → In y xs → P y) → Each P xs
each_in P [] h = tt
each_in P (x ∷ xs) h = (h x (inl refl), each_in P xs (λ y i. h y (inr i)))

pub each_before : (P : NodeName → Type 0) (x : NodeName) (xs : List NodeName) → Each P xs → Each P (items_before name_eq x xs)
each_before P x [] h = tt
each_before P x (z ∷ xs) h = by (name_eq x z) (each_before P x xs h.1)
  where
    by : (b : Bool) → Each P (items_before name_eq x xs) → Each P (if b then [] else z ∷ items_before name_eq x xs)
    by true g = tt
    by false g = (h.0, g)

pub each_append : (P : NodeName → Type 0) (xs ys : List NodeName) → Each P xs → Each P ys → Each P (xs ++ ys)
each_append P [] ys h g = g
each_append P (x ∷ xs) ys h g = (h.0, each_append P xs ys h.1 g)

pub each_drop : (P : NodeName → Type 0) (xs : List NodeName) → Each P xs → Each P (drop 1 xs)
each_drop P [] h = tt
each_drop P (x ∷ xs) h = h.1

pub all_same : (p q : NodeName → Bool) (xs : List NodeName) → Each (λ y. p y ≡ q y) xs → list_all p xs ≡ list_all q xs
all_same p q [] h = refl
all_same p q (x ∷ xs) h = ap (λ b. b && list_all p xs) h.0 ∙ ap (λ b. q x && b) (all_same p q xs h.1)

pub any_same : (p q : NodeName → Bool) (xs : List NodeName) → Each (λ y. p y ≡ q y) xs → list_any p xs ≡ list_any q xs
any_same p q [] h = refl
any_same p q (x ∷ xs) h = ap (λ b. b || list_any p xs) h.0 ∙ ap (λ b. q x || b) (any_same p q xs h.1)

pub find_same : (p q : NodeName → Bool) (xs : List NodeName) → Each (λ y. p y ≡ q y) xs → find p xs ≡ find q xs
find_same p q [] h = refl
find_same p q (x ∷ xs) h = ap (λ b. if b then Some x else find p xs) h.0 ∙ ap (λ o. if q x then Some x else o) (find_same p q xs h.1)

pub each_filter : (P : NodeName → Type 0) (p : NodeName → Bool) (xs : List NodeName) → Each P xs → Each P (filter p xs)
each_filter P p [] h = tt
each_filter P p (x ∷ xs) h = by (p x) (each_filter P p xs h.1)
  where
    by : (b : Bool) → Each P (filter p xs) → Each P (if b then x ∷ filter p xs else filter p xs)
    by true g = (h.0, g)
    by false g = g

pub each_first : (P : NodeName → Type 0) (xs : List NodeName) (y : NodeName) → Each P xs → first_of xs ≡ Some y → P y
each_first P [] y h e = absurd (none-some y e)
each_first P (x ∷ xs) y h e = subst P (same_Some x y e) h.0

each_last_from : (P : NodeName → Type 0) {o : Option NodeName} (xs : List NodeName) {y : NodeName} → ((z : NodeName) → o ≡ Some z → P z) →
    Each P xs → last_or o xs ≡ Some y → P y
each_last_from P [] {y} g h e = g y e
each_last_from P (x ∷ xs) g h e = each_last_from P xs (λ z is. subst P (same_Some x z is) h.0) h.1 e

pub each_last : (P : NodeName → Type 0) (xs : List NodeName) (y : NodeName) → Each P xs → last_of xs ≡ Some y → P y
each_last P xs y h e = each_last_from P xs (λ z none. absurd (none-some z none)) h e

pub each_find : (P : NodeName → Type 0) (p : NodeName → Bool) (xs : List NodeName) (y : NodeName) → Each P xs → find p xs ≡ Some y → P y
each_find P p [] y h e = absurd (none-some y e)
each_find P p (x ∷ xs) y h e = by (p x) e (each_find P p xs y h.1)
  where
    by : (b : Bool) → (if b then Some x else find p xs) ≡ Some y → (find p xs ≡ Some y → P y) → P y
    by true g later = subst P (same_Some x y g) h.0
    by false g later = later g
