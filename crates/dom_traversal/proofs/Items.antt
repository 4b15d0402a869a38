-- Items of lists by their places.
use Rattle.dom_traversal.proofs.Cited.{◌≡◌, ℕ, zero, suc, true, List, [], ◌∷◌, ◌++◌, Some, get_or, refl, sym, ap, subst, ◌∙◌, slice_get, slice_set, is_some}
use Rattle.dom_traversal.proofs.Cited.{none-some, same_Some, EachItem}

-- ---- items that are written and added

pub get_set : {X : Type 0} (xs : List X) (k : ℕ) (x y : X) → slice_get xs k ≡ Some x → slice_get (slice_set xs k y) k ≡ Some y
get_set [] k x y e = absurd (none-some x e)
get_set (z ∷ xs) zero x y e = refl
get_set (z ∷ xs) (suc k) x y e = get_set xs k x y e

pub get_set_other : {X : Type 0} (xs : List X) (k j : ℕ) (y : X) → (j ≡ k → ⊥) → slice_get (slice_set xs k y) j ≡ slice_get xs j
get_set_other [] k j y other = refl
get_set_other (z ∷ xs) zero zero y other = absurd (other refl)
get_set_other (z ∷ xs) zero (suc j) y other = refl
get_set_other (z ∷ xs) (suc k) zero y other = refl
get_set_other (z ∷ xs) (suc k) (suc j) y other = get_set_other xs k j y (λ e. other (ap suc e))

pub set_items : {X : Type 0} (P : X → Type 0) (xs : List X) (k : ℕ) (x : X) → EachItem P xs → P x → EachItem P (slice_set xs k x)
set_items P [] k x all h j y e = all j y e
set_items P (z ∷ xs) zero x all h zero y e = subst P (same_Some x y e) h
set_items P (z ∷ xs) zero x all h (suc j) y e = all (suc j) y e
set_items P (z ∷ xs) (suc k) x all h zero y e = all zero y e
set_items P (z ∷ xs) (suc k) x all h (suc j) y e = set_items P xs k x (λ i. all (suc i)) h j y e

pub push_items : {X : Type 0} (P : X → Type 0) (xs : List X) (x : X) → EachItem P xs → P x → EachItem P (xs ++ x ∷ [])
push_items P [] x all h zero y e = subst P (same_Some x y e) h
push_items P [] x all h (suc j) y e = absurd (none-some y e)
push_items P (z ∷ xs) x all h zero y e = all zero y e
push_items P (z ∷ xs) x all h (suc j) y e = push_items P xs x (λ i. all (suc i)) h j y e

-- an item that was read
pub got : {X : Type 0} (xs : List X) (k : ℕ) (x : X) → is_some (slice_get xs k) ≡ true → x ≡ get_or xs k x → slice_get xs k ≡ Some x
got [] k x there e = cc
got (z ∷ xs) zero x there e = ap Some (sym e)
got (z ∷ xs) (suc k) x there e = got xs k x there e

pub got_is : {X : Type 0} (xs : List X) (k : ℕ) {x : X} (y : X) → is_some (slice_get xs k) ≡ true → y ≡ get_or xs k y → slice_get xs k ≡ Some x → y ≡ x
got_is xs k {x = x} y there e is = same_Some y x (sym (got xs k y there e) ∙ is)
