-- The first entry of an owner, taken out where it is found.
use Rattle.dom_base.proofs.Std.{◌≡◌, ℕ, suc, ◌+◌, Bool, true, false, not, List, [], ◌∷◌, length, get_or, remove, find, position, position_or_len}
use Rattle.dom_base.proofs.Std.{Some, None, option_map_or, refl, sym, ap, ◌∙◌, cond, if◌then◌else◌, nat_lt, arith, one-add, true≢false}
use Rattle.dom_base.proofs.Std.{ltb-true, ltb-false, lt-ltb, le-ltb, none-some, same_Some}
use Rattle.dom_base.specs.declared.Owner.{Owner}
use Rattle.dom_live.specs.Documents.{is_entry_of, first_is_live, without_first}

module _ (o : Owner) where
  -- its place
  abbrev place : List (Owner × Bool) → ℕ
  place es = position_or_len (is_entry_of o) es

  -- where it has a place, the list without it
  removed : (es : List (Owner × Bool)) → nat_lt (place es) (length es) ≡ true → remove es (place es) ≡ without_first o es
  removed [] l = absurd (true≢false (sym l))
  removed (e ∷ es) l = by (is_entry_of o e) (removed es) l
    where
      by : (b : Bool) → (nat_lt (place es) (length es) ≡ true → remove es (place es) ≡ without_first o es) →
          nat_lt (cond (not b) (1 + place es) 0) (suc (length es)) ≡ true →
          remove (e ∷ es) (cond (not b) (1 + place es) 0) ≡ (if b then es else e ∷ without_first o es)
      by true rest m = refl
      by false rest m =
          let l : nat_lt (place es) (length es) ≡ true = lt-ltb (place es) (length es) (omega (arith, ltb-true (1 + place es) (suc (length es)) m)) in
          rw one-add (ap (λ ys. e ∷ ys) (rest l))

  -- and whether it is live
  found : (es : List (Owner × Bool)) (d : Owner × Bool) → nat_lt (place es) (length es) ≡ true → (get_or es (place es) d).1 ≡ first_is_live o es
  found [] d l = absurd (true≢false (sym l))
  found (e ∷ es) d l = by (is_entry_of o e) (found es d) l
    where
      by : (b : Bool) → (nat_lt (place es) (length es) ≡ true → (get_or es (place es) d).1 ≡ first_is_live o es) →
          nat_lt (cond (not b) (1 + place es) 0) (suc (length es)) ≡ true →
          (get_or (e ∷ es) (cond (not b) (1 + place es) 0) d).1 ≡ option_map_or (λ (t : Owner × Bool). t.1)
          (if b then Some e else find (is_entry_of o) es) false
      by true rest m = refl
      by false rest m =
          let l : nat_lt (place es) (length es) ≡ true = lt-ltb (place es) (length es) (omega (arith, ltb-true (1 + place es) (suc (length es)) m)) in
          rw one-add (rest l)

  -- where it has none, all stay
  kept : (es : List (Owner × Bool)) → nat_lt (place es) (length es) ≡ false → without_first o es ≡ es
  kept [] l = refl
  kept (e ∷ es) l = by (is_entry_of o e) (kept es) l
    where
      by : (b : Bool) → (nat_lt (place es) (length es) ≡ false → without_first o es ≡ es) →
          nat_lt (cond (not b) (1 + place es) 0) (suc (length es)) ≡ false → (if b then es else e ∷ without_first o es) ≡ e ∷ es
      by true rest m = absurd (true≢false (sym (lt-ltb 0 (suc (length es)) (omega arith)) ∙ m))
      by false rest m =
          ap (λ ys. e ∷ ys) (rest (le-ltb (place es) (length es) (omega (arith, ltb-false (1 + place es) (suc (length es)) m))))

  -- and none is live
  none-found : (es : List (Owner × Bool)) → nat_lt (place es) (length es) ≡ false → first_is_live o es ≡ false
  none-found [] l = refl
  none-found (e ∷ es) l = by (is_entry_of o e) (none-found es) l
    where
      by : (b : Bool) → (nat_lt (place es) (length es) ≡ false → first_is_live o es ≡ false) →
          nat_lt (cond (not b) (1 + place es) 0) (suc (length es)) ≡ false →
          option_map_or (λ (t : Owner × Bool). t.1) (if b then Some e else find (is_entry_of o) es) false ≡ false
      by true rest m = absurd (true≢false (sym (lt-ltb 0 (suc (length es)) (omega arith)) ∙ m))
      by false rest m = rest (le-ltb (place es) (length es) (omega (arith, ltb-false (1 + place es) (suc (length es)) m)))

  module _ (es : List (Owner × Bool)) where
    -- what is taken out where it is found
    pub removed-at : (i : ℕ) → position (is_entry_of o) es ≡ Some i → remove es i ≡ without_first o es
    removed-at i e = by (nat_lt (place es) (length es)) refl e
      where
        by : (d : Bool) → nat_lt (place es) (length es) ≡ d → cond d (Some (place es)) None ≡ Some i → remove es i ≡ without_first o es
        by true l is = ap (remove es) (sym (same_Some (place es) i is)) ∙ removed es l
        by false l is = absurd (none-some i is)

    pub live-at : (i : ℕ) (d : Owner × Bool) → position (is_entry_of o) es ≡ Some i → (get_or es i d).1 ≡ first_is_live o es
    live-at i d e = by (nat_lt (place es) (length es)) refl e
      where
        by : (t : Bool) → nat_lt (place es) (length es) ≡ t → cond t (Some (place es)) None ≡ Some i → (get_or es i d).1 ≡ first_is_live o es
        by true l is = ap (λ j. (get_or es j d).1) (sym (same_Some (place es) i is)) ∙ found es d l
        by false l is = absurd (none-some i is)

    -- and where it is not found
    missing : position (is_entry_of o) es ≡ None → nat_lt (place es) (length es) ≡ false
    missing e = by (nat_lt (place es) (length es)) refl e
      where
        by : (d : Bool) → nat_lt (place es) (length es) ≡ d → cond d (Some (place es)) None ≡ None → nat_lt (place es) (length es) ≡ false
        by true l is = absurd (none-some (place es) (sym is))
        by false l is = l

    pub kept-whole : position (is_entry_of o) es ≡ None → without_first o es ≡ es
    kept-whole e = kept es (missing e)

    pub none-live : position (is_entry_of o) es ≡ None → first_is_live o es ≡ false
    none-live e = none-found es (missing e)
