-- The slots of a node to which one was given in line.
use Rattle.dom_base.proofs.Std.{◌≡◌, inl, inr, ℕ, zero, suc, ◌<◌, false, List, [], ◌∷◌, ◌++◌, length, None, refl, sym, ap, subst, ◌∙◌, true≢false, nat_eq}
use Rattle.dom_base.proofs.Std.{slice_get, slice_index_or, slice_set, if◌then◌else◌, Vec, cases_Bool, eqb-true, eq-eqb, get_or-set_same, get_or-set_other}
use Rattle.dom_base.proofs.Std.{none-some}
use Rattle.dom_slots.specs.Definitions.{list_at, in_line, slots_at}

-- of no first one there is none
none-there : (xs : List ℕ) → slice_get xs 0 ≡ None → xs ≡ []
none-there [] e = refl
none-there (x ∷ xs) e = absurd (none-some x (sym e))

module _ {A : Type 0} (node slot : ℕ) (first now : List ℕ) (rest : List (Vec ℕ A)) (other : nat_eq slot 0 ≡ false)
    (free : slice_get (slots_at first rest node) 0 ≡ None) (there : node < length now)
    (kept : (k : ℕ) → slice_index_or now k 0 ≡ slice_index_or first k 0) where
  here : in_line slot ++ list_at rest node ≡ slots_at first rest node ++ slot ∷ []
  here = by slot other ∙ ap (λ xs. xs ++ slot ∷ []) (sym empty)
    where
      empty : slots_at first rest node ≡ []
      empty = none-there (slots_at first rest node) free

      back : (xs ys : List ℕ) → xs ++ ys ≡ [] → ys ≡ []
      back [] ys e = e
      back (x ∷ xs) ys e = cc

      by : (n : ℕ) → nat_eq n 0 ≡ false → in_line n ++ list_at rest node ≡ n ∷ []
      by zero e = absurd (true≢false e)
      by (suc n) e = ap (λ xs. suc n ∷ xs) (back (in_line (slice_index_or first node 0)) (list_at rest node) empty)

  here_at : slots_at (slice_set now node slot) rest node ≡ slots_at first rest node ++ slot ∷ []
  here_at = ap (λ n. in_line n ++ list_at rest node) (get_or-set_same now node slot 0 there) ∙ here

  -- the slots of nodes after it
  pub put-in-line : (k : ℕ) → slots_at (slice_set now node slot) rest k ≡
      (if nat_eq node k then slots_at first rest k ++ slot ∷ [] else slots_at first rest k)
  put-in-line k = elim (cases_Bool (nat_eq node k)) [
    | inl e ↦
        subst (λ j. slots_at (slice_set now node slot) rest j ≡ slots_at first rest j ++ slot ∷ []) (eqb-true node k e) here_at
        ∙ sym (ap (λ b. if b then slots_at first rest k ++ slot ∷ [] else slots_at first rest k) e)
    | inr e ↦
        ap (λ n. in_line n ++ list_at rest k)
        (get_or-set_other now node k slot 0 (λ same. true≢false (sym (eq-eqb node k (sym same)) ∙ e)) ∙ kept k)
        ∙ sym (ap (λ b. if b then slots_at first rest k ++ slot ∷ [] else slots_at first rest k) e)
  ]
