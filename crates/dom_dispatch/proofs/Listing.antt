-- The places of one node's listeners, and of all nodes', as one is put there or taken out.
use Rattle.dom_dispatch.proofs.Cited.{◌≡◌, ◌≢◌, ◌⊎◌, inl, inr, ℕ, ◌&&◌, Bool, true, false, cond, not, List, [], ◌∷◌, ◌++◌, filter, Option, Some, None, zero}
use Rattle.dom_dispatch.proofs.Cited.{suc, refl, sym}
use Rattle.dom_dispatch.proofs.Cited.{ap, subst, ◌∙◌, nat_eq, slice_get, set, if◌then◌else◌, option_map_or, bytes_eq, bytes_eq-Decides, eqb_tells, none-some}
use Rattle.dom_dispatch.proofs.Cited.{filter-append, text_eq, text_test, Word, Vec, Global, PlaceList, first_in, rest_in, places_in, MayPut}
use Rattle.dom_dispatch.proofs.Narrowing.{filter-wider}

-- the places of a list, if there is one
abbrev pub listed : Option (Vec ℕ Global) → List ℕ
listed o = option_map_or (λ (places : Vec ℕ Global). places.items) o []

-- what the tests of texts tell
text-is : (s t : Word) → text_eq s t ≡ true → s ≡ t
text-is s t e = (bytes_eq-Decides s t).0 (text_test s t ∙ e)

pub text-same : (s : Word) → text_eq s s ≡ true
text-same s = sym (text_test s s) ∙ (bytes_eq-Decides s s).1 refl

-- the list under one type is another
module _ (f g : Word → Option (Vec ℕ Global)) (s : Word) where
  pub list-changed : (new : Vec ℕ Global) (h : List ℕ → List ℕ) → ((t : Word) → g t ≡ cond (bytes_eq s t) (Some new) (f t)) →
      new.items ≡ h (listed (f s)) → (t : Word) → listed (g t) ≡ (if text_eq s t then h (listed (f t)) else listed (f t))
  list-changed new h updated is t = ap listed (updated t ∙ ap (λ b. cond b (Some new) (f t)) (text_test s t)) ∙ by (text_eq s t) refl
    where
      by : (b : Bool) → text_eq s t ≡ b → listed (cond b (Some new) (f t)) ≡ (if b then h (listed (f t)) else listed (f t))
      by true e = is ∙ ap (λ u. h (listed (f u))) (text-is s t e)
      by false e = refl

-- where there is none under it, nothing is changed by what leaves an empty list so
pub list-absent : (f : Word → Option (Vec ℕ Global)) (s : Word) (h : List ℕ → List ℕ) → h [] ≡ [] → None ≡ f s →
    (t : Word) → listed (f t) ≡ (if text_eq s t then h (listed (f t)) else listed (f t))
list-absent f s h empty none t = by (text_eq s t) refl
  where
    by : (b : Bool) → text_eq s t ≡ b → listed (f t) ≡ (if b then h (listed (f t)) else listed (f t))
    by true e =
        let here : listed (f t) ≡ [] = ap listed (ap f (sym (text-is s t e)) ∙ sym none) in
        here ∙ sym empty ∙ ap h (sym here)
    by false e = refl

-- ---- one node's

-- the places but one
abbrev pub all_but : ℕ → List ℕ → List ℕ
all_but place js = filter (λ j. not (nat_eq j place)) js

but-twice : (place : ℕ) (js : List ℕ) → all_but place (all_but place js) ≡ all_but place js
but-twice place js = filter-wider (λ j. not (nat_eq j place)) (λ j. not (nat_eq j place)) (λ j e. e) js

module _ (old new : PlaceList) (event : Word) (place : ℕ) (first : first_in new ≡ all_but place (first_in old))
    (rest : (t : Word) → rest_in new t ≡ (if text_eq event t then all_but place (rest_in old t) else rest_in old t)) where
  pub one-gone : places_in new event ≡ all_but place (places_in old event)
  one-gone =
      (λ j. first j ++ (rest event ∙ ap (λ b. if b then all_but place (rest_in old event) else rest_in old event) (text-same event)) j)
      ∙ sym (filter-append (λ j. not (nat_eq j place)) (first_in old) (rest_in old event))

  pub others-stay : (t : Word) → all_but place (places_in new t) ≡ all_but place (places_in old t)
  others-stay t =
      filter-append (λ j. not (nat_eq j place)) (first_in new) (rest_in new t)
      ∙ (λ j. (ap (all_but place) first ∙ but-twice place (first_in old)) j ++ (ap (all_but place) (rest t) ∙ by (text_eq event t)) j)
      ∙ sym (filter-append (λ j. not (nat_eq j place)) (first_in old) (rest_in old t))
    where
      by : (b : Bool) → all_but place (if b then all_but place (rest_in old t) else rest_in old t) ≡ all_but place (rest_in old t)
      by true = but-twice place (rest_in old t)
      by false = refl

-- ---- all nodes'

get-set : {X : Type 0} (xs : List X) (k : ℕ) (x y : X) → slice_get xs k ≡ Some x → slice_get (set xs k y) k ≡ Some y
get-set [] k x y e = absurd (none-some x e)
get-set (z ∷ xs) zero x y e = refl
get-set (z ∷ xs) (suc k) x y e = get-set xs k x y e

get-beside : {X : Type 0} (xs : List X) (i k : ℕ) (y : X) → k ≢ i → slice_get (set xs i y) k ≡ slice_get xs k
get-beside [] i k y other = refl
get-beside (z ∷ xs) zero zero y other = absurd (other refl)
get-beside (z ∷ xs) zero (suc k) y other = refl
get-beside (z ∷ xs) (suc i) zero y other = refl
get-beside (z ∷ xs) (suc i) (suc k) y other = get-beside xs i k y (λ e. other (ap suc e))

-- the places of a node in the rows of all
abbrev pub at_row : List PlaceList → ℕ → Word → List ℕ
at_row rows k t = option_map_or (λ list. places_in list t) (slice_get rows k) []

module _ (rows : List PlaceList) (i : ℕ) (old new : PlaceList) (there : slice_get rows i ≡ Some old) where
  pub row-was : (t : Word) → at_row rows i t ≡ places_in old t
  row-was t = ap (λ o. option_map_or (λ list. places_in list t) o []) there

  pub row-is : (t : Word) → at_row (set rows i new) i t ≡ places_in new t
  row-is t = ap (λ o. option_map_or (λ list. places_in list t) o []) (get-set rows i old new there)

  beside : (k : ℕ) (t : Word) → k ≢ i → at_row (set rows i new) k t ≡ at_row rows k t
  beside k t other = ap (λ o. option_map_or (λ list. places_in list t) o []) (get-beside rows i k new other)

  -- what a row shares with the one that it was, all rows do
  pub rows-like : (f : List ℕ → List ℕ) → ((t : Word) → f (places_in new t) ≡ f (places_in old t)) → (k : ℕ) (t : Word) →
      f (at_row (set rows i new) k t) ≡ f (at_row rows k t)
  rows-like f like k t = elim (eqb_tells k i) [
    | inl same ↦
        ap (λ j. f (at_row (set rows i new) j t)) same.1 ∙ ap f (row-is t) ∙ like t ∙ ap f (sym (row-was t))
        ∙ ap (λ j. f (at_row rows j t)) (sym same.1)
    | inr other ↦ ap f (beside k t other.1)
  ]

  pub rows-put : (event : Word) (place : ℕ) → ((t : Word) → MayPut (text_eq event t) place (places_in old t) (places_in new t)) → (k : ℕ) (t : Word) →
      MayPut (nat_eq i k && text_eq event t) place (at_row rows k t) (at_row (set rows i new) k t)
  rows-put event place put k t = by (eqb_tells i k)
    where
      by : ((nat_eq i k ≡ true) × (i ≡ k)) ⊎ ((nat_eq i k ≡ false) × (i ≢ k)) → MayPut (nat_eq i k && text_eq event t) place (at_row rows k t)
          (at_row (set rows i new) k t)
      by (inl same) =
          subst (λ b. MayPut (b && text_eq event t) place (at_row rows k t) (at_row (set rows i new) k t)) (sym same.0)
          (subst (λ n. MayPut (text_eq event t) place (at_row rows n t) (at_row (set rows i new) n t)) same.1
          (subst (λ js. MayPut (text_eq event t) place js (at_row (set rows i new) i t)) (sym (row-was t))
          (subst (MayPut (text_eq event t) place (places_in old t)) (sym (row-is t)) (put t))))
      by (inr other) = inr (beside k t (λ e. other.1 (sym e)), ap (λ b. b && text_eq event t) other.0)
