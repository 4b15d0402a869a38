-- Numbers from 0 on, with a list behind them.
use Rattle.dom_base.proofs.Std.{◌≡◌, ◌<◌, ◌≤◌, ℕ, List, [], ◌∷◌, ◌++◌, ◌+◌, ◌-◌, ◌∙◌, sym, ap, arith, length, length-append, get_or_append_left}
use Rattle.dom_base.proofs.Std.{get_or-append_right, slice_get, slice_get_read, slice_get-get_or, slice_get_past, cases_lt, Some, append_assoc, append-nil}
use Rattle.dom_base.proofs.Std.{range_with_len, zero-add, suc, inl, inr}
use Rattle.std.proofs.lemmas.List.FromFn.{length-range_with_len, get_or-range_with_len}
use Rattle.dom_tree.proofs.Roots.{range-push}

module _ (n : ℕ) (xs : List ℕ) where
  pub length-counted : length (range_with_len 0 n ++ xs) ≡ n + length xs
  length-counted = length-append (range_with_len 0 n) xs ∙ ap (λ m. m + length xs) (length-range_with_len 0 n)

  -- a number that is counted stands at its own place
  pub get-counted : (i : ℕ) → i < n → slice_get (range_with_len 0 n ++ xs) i ≡ Some i
  get-counted i below = slice_get_read (range_with_len 0 n ++ xs) (n + length xs) i i (sym length-counted) (omega arith)
      (sym (get_or_append_left (range_with_len 0 n) xs i i (omega (arith, length-range_with_len 0 n)) ∙ (get_or-range_with_len 0 n i i below ∙ zero-add i)))

  -- and what is not stands in the list behind
  pub get-behind : (i : ℕ) → n ≤ i → slice_get (range_with_len 0 n ++ xs) i ≡ slice_get xs (i - n)
  get-behind i past = elim (cases_lt (i - n) (length xs)) [
    | inl within ↦ slice_get-get_or (range_with_len 0 n ++ xs) i 0 (omega (arith, length-counted))
        ∙ (ap Some (get_or-append_right (range_with_len 0 n) xs n i 0 (length-range_with_len 0 n) past) ∙ sym (slice_get-get_or xs (i - n) 0 within))
    | inr beyond ↦ slice_get_past (range_with_len 0 n ++ xs) i (omega (arith, length-counted)) ∙ sym (slice_get_past xs (i - n) beyond)
  ]

  -- one more is put behind the list
  pub pushed-behind : (k : ℕ) → range_with_len 0 n ++ (xs ++ k ∷ []) ≡ (range_with_len 0 n ++ xs) ++ k ∷ []
  pushed-behind k = sym (append_assoc (range_with_len 0 n) xs (k ∷ []))

  -- or counted, where there is no list
  pub counted-more : (k : ℕ) → xs ≡ [] → k ≡ n → range_with_len 0 (n + 1) ++ xs ≡ (range_with_len 0 n ++ xs) ++ k ∷ []
  counted-more k none is =
      let more : n + 1 ≡ suc n = omega arith in
      ap (λ l. range_with_len 0 (n + 1) ++ l) none
      ∙ (append-nil (range_with_len 0 (n + 1)) ∙ (ap (range_with_len 0) more ∙ (range-push 0 n k (zero-add n ∙ sym is)
      ∙ ap (λ l. l ++ k ∷ []) (sym (append-nil (range_with_len 0 n)) ∙ ap (λ l. range_with_len 0 n ++ l) (sym none)))))
