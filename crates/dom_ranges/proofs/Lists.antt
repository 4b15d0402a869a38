-- Lists that are rewritten item by item, and read after one item was set.
use Rattle.dom_ranges.proofs.Cited.{◌≡◌, ℕ, zero, suc, List, [], ◌∷◌, map, Option, Some, None, refl, sym, ap, ◌∙◌, arith, slice_get, slice_set, option_flatten}

-- the same first item and the same rest
pub cons_same : {X : Type 0} (x y : X) (xs ys : List X) → x ≡ y → xs ≡ ys → x ∷ xs ≡ y ∷ ys
cons_same x y xs ys e f = ap (λ z. z ∷ xs) e ∙ ap (λ zs. y ∷ zs) f

-- rewritten by functions that agree at each item
pub map_kept : {X Y : Type 0} (f g : X → Y) (xs : List X) → ((j : ℕ) (x : X) → slice_get xs j ≡ Some x → g x ≡ f x) → map g xs ≡ map f xs
map_kept f g [] h = refl
map_kept f g (x ∷ xs) h = cons_same (g x) (f x) (map g xs) (map f xs) (h 0 x refl) (map_kept f g xs (λ j y e. h (suc j) y e))

-- rewritten at once, and in two steps
pub map_twice : {X Y Z : Type 0} (f : X → Y) (h : Y → Z) (g : X → Z) (xs : List X) → ((x : X) → g x ≡ h (f x)) → map g xs ≡ map h (map f xs)
map_twice f h g [] e = refl
map_twice f h g (x ∷ xs) e = cons_same (g x) (h (f x)) (map g xs) (map h (map f xs)) (e x) (map_twice f h g xs e)

-- rewritten by functions that agree at each item but one
pub map_set : {X Y : Type 0} {f g : X → Y} {y : Y} (xs : List X) {k : ℕ} → ((x : X) → slice_get xs k ≡ Some x → g x ≡ y) →
    ((j : ℕ) (x : X) → (j ≡ k → ⊥) → slice_get xs j ≡ Some x → g x ≡ f x)
    → map g xs ≡ slice_set (map f xs) k y
map_set [] here others = refl
map_set {f} {g} {y} (x ∷ xs) {k = zero} here others =
    cons_same (g x) y (map g xs) (map f xs) (here x refl) (map_kept f g xs (λ j z e. others (suc j) z (λ s. omega (arith, s)) e))
map_set {f} {g} {y} (x ∷ xs) {k = suc k} here others =
    cons_same (g x) (f x) (map g xs) (slice_set (map f xs) k y) (others 0 x (λ s. omega (arith, s)) refl)
    (map_set xs (λ z e. here z e) (λ j z off e. others (suc j) z (λ s. off (omega (arith, s))) e))

-- two ways to rewrite a list, equal but for one item, agree where that item is set in both
pub set_over : {X Y : Type 0} (f g : X → Y) (y : Y) (xs : List X) (k : ℕ) →
    ((j : ℕ) (x : X) → (j ≡ k → ⊥) → slice_get xs j ≡ Some x → g x ≡ f x) → slice_set (map g xs) k y ≡ slice_set (map f xs) k y
set_over f g y [] k others = refl
set_over f g y (x ∷ xs) zero others =
    cons_same y y (map g xs) (map f xs) refl (map_kept f g xs (λ j z e. others (suc j) z (λ s. omega (arith, s)) e))
set_over f g y (x ∷ xs) (suc k) others =
    cons_same (g x) (f x) (slice_set (map g xs) k y) (slice_set (map f xs) k y) (others 0 x (λ s. omega (arith, s)) refl)
    (set_over f g y xs k (λ j z off e. others (suc j) z (λ s. off (omega (arith, s))) e))

-- the item that was set
pub set-at : {X : Type 0} (xs : List X) (k : ℕ) (x y : X) → slice_get (slice_set xs k x) k ≡ Some y → y ≡ x
set-at [] k x y e = cc
set-at (z ∷ xs) zero x y e = cc
set-at (z ∷ xs) (suc k) x y e = set-at xs k x y e

-- to set none where there is none changes nothing
pub set-absent : {X : Type 0} (xs : List (Option X)) (k : ℕ) → option_flatten (slice_get xs k) ≡ None → slice_set xs k None ≡ xs
set-absent [] k e = refl
set-absent (x ∷ xs) zero e = ap (λ z. z ∷ xs) (sym e)
set-absent (x ∷ xs) (suc k) e = ap (λ zs. x ∷ zs) (set-absent xs k e)

-- any other item
pub set-other : {X : Type 0} (xs : List X) (k : ℕ) (x : X) (j : ℕ) → (j ≡ k → ⊥) → slice_get (slice_set xs k x) j ≡ slice_get xs j
set-other [] k x j off = refl
set-other (z ∷ xs) zero x zero off = absurd (off refl)
set-other (z ∷ xs) zero x (suc j) off = refl
set-other (z ∷ xs) (suc k) x zero off = refl
set-other (z ∷ xs) (suc k) x (suc j) off = set-other xs k x j (λ e. off (ap suc e))
