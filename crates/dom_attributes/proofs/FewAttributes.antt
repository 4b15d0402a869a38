-- Attributes of which the first few stand in a list of the code: what is found among them, set there and taken from there.
use Rattle.dom_base.proofs.Std.{◌≡◌, ℕ, zero, suc, ◌+◌, ◌<◌, ◌≤◌, Bool, true, false, cond, not, List, [], ◌∷◌, ◌++◌, set, length, Option, Some, None}
use Rattle.dom_base.proofs.Std.{refl, sym, ap, ◌∙◌, arith, slice_index_or, nat_lt, if◌then◌else◌, AllByRecursion}
use Rattle.dom_base.proofs.Std.{position, position_or_len, remove, bytes_eq, ltb-true, ltb-false, same_Some, none-some}
use Rattle.dom_model.proofs.Model.{text_eq, Attribute, attributes_with, attributes_without}
use Rattle.dom_attributes.specs.Attributes.{HaveOwnNames, value_among}
use Rattle.dom_attributes.proofs.Attributes.{text_test, attributes_in}

-- ---- the first place where a test passes

module _ {X : Type 0} (q : X → Bool) where
  -- the test passes at a place, and at none before
  abbrev pub IsAt : List X → ℕ → Type 0
  IsAt [] i = ⊥
  IsAt (x ∷ xs) zero = q x ≡ true
  IsAt (x ∷ xs) (suc i) = (q x ≡ false) × IsAt xs i

  at-first : (xs : List X) (i : ℕ) → position_or_len q xs ≡ i → position_or_len q xs < length xs → IsAt xs i
  at-first [] i e l = absurd (omega (arith, l))
  at-first (x ∷ xs) i e l = by (q x) refl (at-first xs) i e l
    where
      by : (b : Bool) → q x ≡ b → ((j : ℕ) → position_or_len q xs ≡ j → position_or_len q xs < length xs → IsAt xs j) →
          (j : ℕ) → cond (not b) (1 + position_or_len q xs) 0 ≡ j → cond (not b) (1 + position_or_len q xs) 0 < length (x ∷ xs) → IsAt (x ∷ xs) j
      by true here rest zero f m = here
      by true here rest (suc j) f m = absurd (omega (arith, f))
      by false here rest zero f m = absurd (omega (arith, f))
      by false here rest (suc j) f m = (here, rest j (omega (arith, f)) (omega (arith, m)))

  pub place-at : {xs read : List X} {i : ℕ} {o : Option ℕ} → o ≡ position q read → read ≡ xs → o ≡ Some i → IsAt xs i
  place-at {xs} {i} is same e = by (nat_lt (position_or_len q xs) (length xs)) refl (ap (position q) (sym same) ∙ (sym is ∙ e))
    where
      by : (b : Bool) → nat_lt (position_or_len q xs) (length xs) ≡ b → cond b (Some (position_or_len q xs)) None ≡ Some i → IsAt xs i
      by true l f = at-first xs i (same_Some (position_or_len q xs) i f) (ltb-true (position_or_len q xs) (length xs) l)
      by false l f = absurd (none-some i f)

  all-off : (xs : List X) → length xs ≤ position_or_len q xs → AllByRecursion (λ x. q x ≡ false) xs
  all-off [] l = tt
  all-off (x ∷ xs) l = by (q x) refl (all-off xs) l
    where
      by : (b : Bool) → q x ≡ b → (length xs ≤ position_or_len q xs → AllByRecursion (λ y. q y ≡ false) xs) →
          length (x ∷ xs) ≤ cond (not b) (1 + position_or_len q xs) 0 → AllByRecursion (λ y. q y ≡ false) (x ∷ xs)
      by true here rest m = absurd (omega (arith, m))
      by false here rest m = (here, rest (omega (arith, m)))

  pub place-off : (xs read : List X) (o : Option ℕ) → o ≡ position q read → read ≡ xs → o ≡ None → AllByRecursion (λ x. q x ≡ false) xs
  place-off xs read o is same e = by (nat_lt (position_or_len q xs) (length xs)) refl (ap (position q) (sym same) ∙ (sym is ∙ e))
    where
      by : (b : Bool) → nat_lt (position_or_len q xs) (length xs) ≡ b → cond b (Some (position_or_len q xs)) None ≡ None →
          AllByRecursion (λ x. q x ≡ false) xs
      by true l f = absurd (none-some (position_or_len q xs) (sym f))
      by false l f = all-off xs (ltb-false (position_or_len q xs) (length xs) l)

-- ---- the attributes of a list

module _ {K V : Type 0} (text_of : K → List ℕ) (items_of : V → List ℕ) (a : List ℕ) where
  abbrev pub named : K × V → Bool
  named e = bytes_eq a (text_of e.0)

  abbrev all_of : List (K × V) → List Attribute
  all_of es = attributes_in text_of items_of es

  -- the test of texts
  told : (e : K × V) (b : Bool) → named e ≡ b → text_eq a (text_of e.0) ≡ b
  told e b h = sym (text_test a (text_of e.0)) ∙ h

  pub found-value : (es : List (K × V)) (i : ℕ) (e : K × V) → IsAt named es i → e ≡ slice_index_or es i e → Some (items_of e.1) ≡ value_among a (all_of es)
  found-value [] i e at got = absurd at
  found-value (x ∷ es) zero e at got = rw (told x true at) (ap (λ (y : K × V). Some (items_of y.1)) got)
  found-value (x ∷ es) (suc i) e at got = rw (told x false at.0) (found-value es i e at.1 got)

  pub found-set : (es : List (K × V)) (i : ℕ) (e : K × V) (v : V) → IsAt named es i → e ≡ slice_index_or es i e →
      all_of (set es i (e.0, v)) ≡ attributes_with a (items_of v) (all_of es)
  found-set [] i e v at got = absurd at
  found-set (x ∷ es) zero e v at got =
      rw (told x true at) (ap (λ (y : K × V). record { name = text_of y.0; value = items_of v } ∷ all_of es) got)
  found-set (x ∷ es) (suc i) e v at got =
      rw (told x false at.0) (ap (λ bs. record { name = text_of x.0; value = items_of x.1 } ∷ bs) (found-set es i e v at.1 got))

  pub found-without : (es : List (K × V)) (i : ℕ) → IsAt named es i → all_of (remove es i) ≡ attributes_without a (all_of es)
  found-without [] i at = absurd at
  found-without (x ∷ es) zero at = rw (told x true at) refl
  found-without (x ∷ es) (suc i) at =
      rw (told x false at.0) (ap (λ bs. record { name = text_of x.0; value = items_of x.1 } ∷ bs) (found-without es i at.1))

  pub off-value : (es : List (K × V)) → AllByRecursion (λ e. named e ≡ false) es → None ≡ value_among a (all_of es)
  off-value [] off = refl
  off-value (x ∷ es) off = rw (told x false off.0) (off-value es off.1)

  pub off-without : (es : List (K × V)) → AllByRecursion (λ e. named e ≡ false) es → all_of es ≡ attributes_without a (all_of es)
  off-without [] off = refl
  off-without (x ∷ es) off = rw (told x false off.0) (ap (λ bs. record { name = text_of x.0; value = items_of x.1 } ∷ bs) (off-without es off.1))

  -- one more goes last
  pub off-added : (es : List (K × V)) (k : K) (v : V) → text_of k ≡ a → AllByRecursion (λ e. named e ≡ false) es →
      all_of (es ++ (k, v) ∷ []) ≡ attributes_with a (items_of v) (all_of es)
  off-added [] k v same off = ap (λ n. record { name = n; value = items_of v } ∷ []) same
  off-added (x ∷ es) k v same off =
      rw (told x false off.0) (ap (λ bs. record { name = text_of x.0; value = items_of x.1 } ∷ bs) (off-added es k v same off.1))

  -- what has another name, as attributes and as entries of the list
  pub off-attributes : (es : List (K × V)) → AllByRecursion (λ e. named e ≡ false) es → AllByRecursion (λ b. text_eq a b.name ≡ false) (all_of es)
  off-attributes [] off = tt
  off-attributes (x ∷ es) off = (told x false off.0, off-attributes es off.1)

  pub off-entries : (es : List (K × V)) → AllByRecursion (λ b. text_eq a b.name ≡ false) (all_of es) → AllByRecursion (λ e. named e ≡ false) es
  off-entries [] off = tt
  off-entries (x ∷ es) off = (text_test a (text_of x.0) ∙ off.0, off-entries es off.1)

-- ---- no two of one name

module _ (a v : List ℕ) where
  -- names that differ from one still do
  others-with : (n : List ℕ) (bs : List Attribute) → text_eq a n ≡ false → AllByRecursion (λ c. text_eq c.name n ≡ false) bs →
      AllByRecursion (λ c. text_eq c.name n ≡ false) (attributes_with a v bs)
  others-with n [] off all = (off, tt)
  others-with n (b ∷ bs) off all = by (text_eq a b.name) (others-with n bs off all.1)
    where
      by : (t : Bool) → AllByRecursion (λ c. text_eq c.name n ≡ false) (attributes_with a v bs) →
          AllByRecursion (λ c. text_eq c.name n ≡ false) (if t then record b { value = v } ∷ bs else b ∷ attributes_with a v bs)
      by true rest = all
      by false rest = (all.0, rest)

  pub own-with : (bs : List Attribute) → HaveOwnNames bs → HaveOwnNames (attributes_with a v bs)
  own-with [] own = (tt, tt)
  own-with (b ∷ bs) own = by (text_eq a b.name) refl (own-with bs own.1)
    where
      by : (t : Bool) → text_eq a b.name ≡ t → HaveOwnNames (attributes_with a v bs) →
          HaveOwnNames (if t then record b { value = v } ∷ bs else b ∷ attributes_with a v bs)
      by true e rest = own
      by false e rest = (others-with b.name bs e own.0, rest)

module _ (a : List ℕ) where
  others-without : (n : List ℕ) (bs : List Attribute) → AllByRecursion (λ c. text_eq c.name n ≡ false) bs →
      AllByRecursion (λ c. text_eq c.name n ≡ false) (attributes_without a bs)
  others-without n [] all = tt
  others-without n (b ∷ bs) all = by (text_eq a b.name) (others-without n bs all.1)
    where
      by : (t : Bool) → AllByRecursion (λ c. text_eq c.name n ≡ false) (attributes_without a bs) →
          AllByRecursion (λ c. text_eq c.name n ≡ false) (if t then bs else b ∷ attributes_without a bs)
      by true rest = all.1
      by false rest = (all.0, rest)

  pub own-without : (bs : List Attribute) → HaveOwnNames bs → HaveOwnNames (attributes_without a bs)
  own-without [] own = tt
  own-without (b ∷ bs) own = by (text_eq a b.name) (own-without bs own.1)
    where
      by : (t : Bool) → HaveOwnNames (attributes_without a bs) → HaveOwnNames (if t then bs else b ∷ attributes_without a bs)
      by true rest = own.1
      by false rest = (others-without b.name bs own.0, rest)
