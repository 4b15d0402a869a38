-- Tests of lists whose items are seen in some way.
use Rattle.dom_selectors.proofs.Cited.{◌≡◌, ◌<◌, ℕ, zero, suc, Bool, true, List, [], ◌∷◌, Option, Some, None, refl, ap, sym, not, ◌&&◌, map, list_all}
use Rattle.dom_selectors.proofs.Cited.{option_map, length, is_some, none-some, NodeName, last_of, is_empty, no_last, arith, and_parts, get_or}

-- all that are seen pass where all pass as they are seen
pub all_seen : {X Y : Type 0} (test : Y → Bool) (view : X → Y) (xs : List X) → list_all (λ x. test (view x)) xs ≡ list_all test (map view xs)
all_seen test view [] = refl
all_seen test view (x ∷ xs) = ap (λ b. test (view x) && b) (all_seen test view xs)

-- where all pass as they are seen, each does
module _ {X Y : Type 0} (test : Y → Bool) (view : X → Y) where
  pub one_seen : (xs : List X) (i : ℕ) (d : X) → list_all test (map view xs) ≡ true → i < length xs → test (view (get_or xs i d)) ≡ true
  one_seen [] i d all l = absurd (omega (arith, l))
  one_seen (x ∷ xs) zero d all l = (and_parts (test (view x)) _ all).0
  one_seen (x ∷ xs) (suc i) d all l = one_seen xs i d ((and_parts (test (view x)) _ all).1) (omega (arith, l))

-- there is no last of a list where it is empty
pub no_last_seen : (name : ℕ → NodeName) (o : Option ℕ) (xs : List NodeName) → option_map name o ≡ last_of xs → not (is_some o) ≡ is_empty xs
no_last_seen name None xs e = sym (ap is_empty (no_last xs (sym e)))
no_last_seen name (Some k) [] e = absurd (none-some (name k) (sym e))
no_last_seen name (Some k) (x ∷ xs) e = refl
