-- What the readers of the definitions do at the first units.
use Rattle.dom_selectors.proofs.Cited.{◌≡◌, ℕ, suc, ◌+◌, Bool, true, false, cond, List, [], ◌∷◌, length, take, drop, Some, None, one-add, refl, ap, sym, ◌∙◌}
use Rattle.dom_selectors.proofs.Cited.{◌&&◌, ◌||◌, ◌==◌, nat_eq, slice_index_or, if◌then◌else◌, prefix_len, starts_with, or_left, cond-true}
use Rattle.dom_selectors.proofs.Cited.{DomString, begins_name, continues_name, is_digit, drop_while, expect, read_name}

-- the units behind those that pass are those behind their number
pub behind_those : (test : ℕ → Bool) (cs : List ℕ) → drop (prefix_len test cs) cs ≡ drop_while test cs
behind_those test [] = refl
behind_those test (c ∷ cs) =
    elim (test c) as (λ b. drop (cond b (1 + prefix_len test cs) 0) (c ∷ cs) ≡ (if b then drop_while test cs else c ∷ cs))
    [ true ↦ behind (prefix_len test cs) (behind_those test cs) | false ↦ refl ]
  where
    behind : (n : ℕ) → drop n cs ≡ drop_while test cs → drop (1 + n) (c ∷ cs) ≡ drop_while test cs
    behind n h = rw one-add h

-- a name that begins here goes as far as units go on with it
name_from : (c : ℕ) (cs : DomString) → begins_name c ≡ true
    → Some (take (prefix_len continues_name (c ∷ cs)) (c ∷ cs), drop (prefix_len continues_name (c ∷ cs)) (c ∷ cs)) ≡ read_name (c ∷ cs)
name_from c cs h =
    let more : continues_name c ≡ true = or_left (begins_name c || is_digit c) (c == 45) (or_left (begins_name c) (is_digit c) h) in
    let n = prefix_len continues_name cs in
    let m : prefix_len continues_name (c ∷ cs) ≡ suc n = cond-true (continues_name c) (1 + n) 0 more ∙ one-add n in
    ap (λ k. Some (take k (c ∷ cs), drop k (c ∷ cs))) m
    ∙ ap (λ rest. Some (c ∷ take n cs, rest)) (behind_those continues_name cs)
    ∙ sym (cond-true (begins_name c) (Some (c ∷ take n cs, drop_while continues_name cs)) None h)

-- a name is read where the units are not split yet
pub name_at : (cs : DomString) → begins_name (slice_index_or cs 0 0) ≡ true
    → Some (take (prefix_len continues_name cs) cs, drop (prefix_len continues_name cs) cs) ≡ read_name cs
name_at [] h = cc
name_at (c ∷ cs) h = name_from c cs h

-- a text goes on at a unit that is its next one
pub expect_at : (t : ℕ) (ts : List ℕ) (c : ℕ) (cs : List ℕ) → expect (t ∷ ts) (c ∷ cs) ≡ (if t == c then expect ts cs else None)
expect_at t ts c cs = elim (t == c) as (λ b.
    (if b && starts_with nat_eq cs ts then Some (drop (length ts) cs) else None) ≡ (if b then expect ts cs else None)) [ true ↦ refl | false ↦ refl ]
