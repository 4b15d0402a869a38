-- The places of nodes in lists.
use Rattle.dom_base.proofs.Std.{◌≡◌, ℕ, ◌+◌, ◌<◌, ◌≤◌, Bool, true, false, cond, not, List, [], ◌∷◌, length, Some, None, refl, sym, ap, ◌∙◌, true≢false, arith}
use Rattle.dom_base.proofs.Std.{one-add, nat_eq, nat_lt, if◌then◌else◌, unwrap_or, insert, position, position_or_len, lt-ltb}
use Rattle.node_arena.specs.Nodes.{put_before}

-- ---- the place of a node

module _ (b : ℕ) where
  abbrev is_here : ℕ → Bool
  is_here x = nat_eq x b

  place-within : (xs : List ℕ) → position_or_len is_here xs ≤ length xs
  place-within [] = omega arith
  place-within (x ∷ xs) = by (is_here x) (place-within xs)
    where
      by : (d : Bool) → position_or_len is_here xs ≤ length xs → cond (not d) (1 + position_or_len is_here xs) 0 ≤ length (x ∷ xs)
      by true h = omega arith
      by false h = omega arith

  -- a node that is not there has its place behind all
  pub place-or-end : (xs : List ℕ) → unwrap_or (position is_here xs) (length xs) ≡ position_or_len is_here xs
  place-or-end xs = by (nat_lt (position_or_len is_here xs) (length xs)) refl
    where
      by : (d : Bool) → nat_lt (position_or_len is_here xs) (length xs) ≡ d →
          unwrap_or (cond d (Some (position_or_len is_here xs)) None) (length xs) ≡ position_or_len is_here xs
      by true e = refl
      by false e =
          let within : position_or_len is_here xs ≤ length xs = place-within xs in
          let off : position_or_len is_here xs < length xs → ⊥ = λ l. true≢false (sym (lt-ltb (position_or_len is_here xs) (length xs) l) ∙ e) in
          omega arith

  -- what is inserted at the place of a node stands just before it
  pub inserted-there : (xs : List ℕ) (c : ℕ) → insert xs (position_or_len is_here xs) c ≡ put_before xs c b
  inserted-there [] c = refl
  inserted-there (x ∷ xs) c = by (is_here x) (inserted-there xs c)
    where
      by : (d : Bool) → insert xs (position_or_len is_here xs) c ≡ put_before xs c b →
          insert (x ∷ xs) (cond (not d) (1 + position_or_len is_here xs) 0) c ≡ (if d then c ∷ x ∷ xs else x ∷ put_before xs c b)
      by true rest = refl
      by false rest = rw one-add (ap (λ ys. x ∷ ys) rest)
