-- Places in lists of children.
use Rattle.std.proofs.Common.{◌≡◌, ◌⊎◌, inl, inr, ℕ, zero, suc, ◌<◌, true, false, eqb, List}
use Rattle.std.proofs.Common.{[], ◌∷◌, length, Option, Some, None, refl, sym, ap, ◌∙◌, arith, true≢false}
use Rattle.std.specs.Prelude.{slice_get}
use Rattle.std.specs.Option.{option_eq}
use Rattle.std.proofs.lemmas.Bool.{eq-eqb, eqb-true, cases_Bool, or_left, or_right, both_ways, false_from_ne_true}
use Rattle.std.proofs.lemmas.Option.{same_Some, none-some}
use Rattle.node_arena.specs.contracts.key.KeyPartialEq.TheImpl as KeyImpl
use Rattle.node_arena.specs.Nodes.{children_of, contains, parent_of, place_in, place_of, prev_from, IsOnce}

pub place_in-within : (xs : List ℕ) (k : ℕ) → contains xs k ≡ true → place_in xs k < length xs
place_in-within [] k found = absurd (true≢false (sym found))
place_in-within (x ∷ xs) k found = elim (cases_Bool (eqb x k)) [
  | inl e ↦ rw e (omega arith)
  | inr e ↦ rw e (omega (arith, place_in-within xs k (rw e at found)))
]

-- what stands at a place is in the list
pub get-contains : (xs : List ℕ) (i k : ℕ) → slice_get xs i ≡ Some k → contains xs k ≡ true
get-contains [] i k e = absurd (none-some k e)
get-contains (x ∷ xs) zero k e = or_left (eqb x k) _ (eq-eqb x k (same_Some x k e))
get-contains (x ∷ xs) (suc i) k e = or_right (eqb x k) _ (get-contains xs i k e)

-- what stands just before k has the place before
pub prev_place : (before : Option ℕ) (xs : List ℕ) (k : ℕ) {s : ℕ} → IsOnce xs → contains xs k ≡ true → prev_from before xs k ≡ Some s
    → ((place_in xs k ≡ 0) × (before ≡ Some s)) ⊎ ((contains xs s ≡ true) × (place_in xs k ≡ suc (place_in xs s)))
prev_place before [] k once found e = absurd (true≢false (sym found))
prev_place before (x ∷ xs) k {s} once found e = elim (cases_Bool (eqb x k)) [
  | inl h ↦ rw h (inl (refl, rw h at e))
  | inr h ↦ rw h (elim (prev_place (Some x) xs k once.1 (rw h at found) (rw h at e)) [
    | inl w ↦
        let same : x ≡ s = same_Some x s w.1 in
        inr (or_left (eqb x s) _ (eq-eqb x s same), rw (eq-eqb x s same, w.0) refl)
    | inr w ↦
        let apart : eqb x s ≡ false = false_from_ne_true _ (λ same. both_ways _ once.0 (ap (contains xs) (eqb-true x s same) ∙ w.0)) in
        inr (or_right (eqb x s) _ w.0, rw (apart, w.1) refl)
  ])
]

pub no_prev : (x : ℕ) (xs : List ℕ) (k : ℕ) → contains xs k ≡ true → prev_from (Some x) xs k ≡ None → ⊥
no_prev x [] k found e = true≢false (sym found)
no_prev x (y ∷ xs) k found e = elim (cases_Bool (eqb y k)) [
  | inl h ↦ none-some x (sym (rw h at e))
  | inr h ↦ no_prev y xs k (rw h at found) (rw h at e)
]

pub first_place : (xs : List ℕ) (k : ℕ) → contains xs k ≡ true → prev_from None xs k ≡ None → place_in xs k ≡ 0
first_place [] k found e = absurd (true≢false (sym found))
first_place (x ∷ xs) k found e = elim (cases_Bool (eqb x k)) [
  | inl h ↦ rw h refl
  | inr h ↦ absurd (no_prev x xs k (rw h at found) (rw h at e))
]

pub place_of-root : (lists : List (List ℕ)) (k : ℕ) → parent_of lists k ≡ None → place_of lists k ≡ 0
unfolding place_of
place_of-root lists k e = rw e refl

pub place_of-child : (lists : List (List ℕ)) (k p : ℕ) → parent_of lists k ≡ Some p → place_of lists k ≡ place_in (children_of lists p) k
unfolding place_of
place_of-child lists k p e = rw e refl

-- ---- tests of what may be a key

pub same_option : (a b : Option ℕ) → option_eq KeyImpl.ghosts.eq a b ≡ true → a ≡ b
same_option None None e = refl
same_option None (Some y) e = absurd (true≢false (sym e))
same_option (Some x) None e = absurd (true≢false (sym e))
same_option (Some x) (Some y) e = ap Some (eqb-true x y e)

pub other_option : (a b : Option ℕ) → option_eq KeyImpl.ghosts.eq a b ≡ false → a ≡ b → ⊥
other_option a None apart e = true≢false (rw e at apart)
other_option a (Some y) apart e = true≢false (sym (eq-eqb y y refl) ∙ (rw e at apart))
