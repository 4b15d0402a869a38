-- A node that stands in a list once is taken out at its place.
use Rattle.dom_base.proofs.Std.{◌≡◌, ℕ, suc, ◌+◌, ◌≤◌, Bool, true, false, cond, not, ◌||◌, List, [], ◌∷◌, length, Some, None, refl, sym, ap, ◌∙◌}
use Rattle.dom_base.proofs.Std.{true≢false, arith, one-add, nat_eq, nat_lt, if◌then◌else◌, remove, position, position_or_len, eqb-true, lt-ltb, ltb-true}
use Rattle.dom_base.proofs.Std.{ltb_from_iff, none-some, same_Some}
use Rattle.node_arena.specs.Nodes.{without}
use Rattle.dom_model.proofs.Model.{is_in}
use Rattle.dom_slots.specs.Definitions.{IsSingle}
use Rattle.dom_slots.proofs.Leaving.{without-same}
use Rattle.dom_slots.proofs.Mapping.{nat_eq-turned}

ltb-suc : (a b : ℕ) → nat_lt (suc a) (suc b) ≡ nat_lt a b
ltb-suc a b = ltb_from_iff (λ e. omega (arith, ltb-true (suc a) (suc b) e), λ l. lt-ltb (suc a) (suc b) (omega (arith, l)))

-- a list is shorter without a node just where the node stands in it
no-longer : (n : ℕ) (xs : List ℕ) → length (without n xs) ≤ length xs
no-longer n [] = omega arith
no-longer n (x ∷ xs) = by (nat_eq x n) (no-longer n xs)
  where
    by : (d : Bool) → length (without n xs) ≤ length xs → length (if not d then x ∷ without n xs else without n xs) ≤ suc (length xs)
    by true rest = omega (arith, rest)
    by false rest = omega (arith, rest)

pub shorter-without : (n : ℕ) (xs : List ℕ) → nat_lt (length (without n xs)) (length xs) ≡ is_in nat_eq n xs
shorter-without n [] = refl
shorter-without n (x ∷ xs) = by (nat_eq x n) (nat_eq-turned n x) (no-longer n xs) (shorter-without n xs)
  where
    by : (d : Bool) → nat_eq n x ≡ d → length (without n xs) ≤ length xs → nat_lt (length (without n xs)) (length xs) ≡ is_in nat_eq n xs →
        nat_lt (length (if not d then x ∷ without n xs else without n xs)) (suc (length xs)) ≡ is_in nat_eq n (x ∷ xs)
    by true e few rest = lt-ltb (length (without n xs)) (suc (length xs)) (omega (arith, few)) ∙ sym (ap (λ b. b || is_in nat_eq n xs) e)
    by false e few rest = ltb-suc _ _ ∙ (rest ∙ sym (ap (λ b. b || is_in nat_eq n xs) e))

module _ (n : ℕ) where
  abbrev is_it : ℕ → Bool
  is_it k = nat_eq k n

  abbrev place : List ℕ → ℕ
  place xs = position_or_len is_it xs

  -- a node has a place just where it stands in the list
  stands : (xs : List ℕ) → nat_lt (place xs) (length xs) ≡ is_in nat_eq n xs
  stands [] = refl
  stands (x ∷ xs) = by (nat_eq x n) (nat_eq-turned n x) (stands xs)
    where
      by : (d : Bool) → nat_eq n x ≡ d → nat_lt (place xs) (length xs) ≡ is_in nat_eq n xs →
          nat_lt (cond (not d) (1 + place xs) 0) (suc (length xs)) ≡ is_in nat_eq n (x ∷ xs)
      by true e rest = lt-ltb 0 (suc (length xs)) (omega arith) ∙ sym (ap (λ b. b || is_in nat_eq n xs) e)
      by false e rest = rw one-add (ltb-suc _ _ ∙ (rest ∙ sym (ap (λ b. b || is_in nat_eq n xs) e)))

  -- where it stands once, what is left is the list without it
  taken : (xs : List ℕ) → IsSingle xs → is_in nat_eq n xs ≡ true → remove xs (place xs) ≡ without n xs
  taken [] single i = absurd (true≢false (sym i))
  taken (x ∷ xs) single i = by (nat_eq x n) refl (taken xs single.1)
    where
      by : (d : Bool) → nat_eq x n ≡ d → (is_in nat_eq n xs ≡ true → remove xs (place xs) ≡ without n xs) →
          remove (x ∷ xs) (cond (not d) (1 + place xs) 0) ≡ (if not d then x ∷ without n xs else without n xs)
      by true here rest = sym (without-same n xs (ap (λ k. is_in nat_eq k xs) (sym (eqb-true x n here)) ∙ single.0))
      by false other rest =
          rw one-add (ap (λ ys. x ∷ ys) (rest (sym (ap (λ b. b || is_in nat_eq n xs) (nat_eq-turned n x ∙ other)) ∙ i)))

  module _ (xs : List ℕ) where
    -- it is taken out where it is found
    pub found-stands : (i : ℕ) → position is_it xs ≡ Some i → is_in nat_eq n xs ≡ true
    found-stands i e = by (nat_lt (place xs) (length xs)) refl e
      where
        by : (d : Bool) → nat_lt (place xs) (length xs) ≡ d → cond d (Some (place xs)) None ≡ Some i → is_in nat_eq n xs ≡ true
        by true l is = sym (stands xs) ∙ l
        by false l is = absurd (none-some i is)

    pub found-taken : IsSingle xs → (i : ℕ) → position is_it xs ≡ Some i → remove xs i ≡ without n xs
    found-taken single i e = by (nat_lt (place xs) (length xs)) e
      where
        by : (d : Bool) → cond d (Some (place xs)) None ≡ Some i → remove xs i ≡ without n xs
        by true is = ap (remove xs) (sym (same_Some (place xs) i is)) ∙ taken xs single (found-stands i e)
        by false is = absurd (none-some i is)

    -- and stands nowhere where it is not found
    pub missed : position is_it xs ≡ None → is_in nat_eq n xs ≡ false
    missed e = by (nat_lt (place xs) (length xs)) refl e
      where
        by : (d : Bool) → nat_lt (place xs) (length xs) ≡ d → cond d (Some (place xs)) None ≡ None → is_in nat_eq n xs ≡ false
        by true l is = absurd (none-some (place xs) (sym is))
        by false l is = sym (stands xs) ∙ l
