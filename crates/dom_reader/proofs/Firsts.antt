-- The first place of a byte cuts the bytes in two.
use Rattle.dom_base.proofs.Std.{◌≡◌, ℕ, zero, suc, ◌+◌, ◌<◌, true, false, eqb, List, [], ◌∷◌, ◌++◌, length, get_or, take, drop, ap, add-one, arith}
use Rattle.dom_base.proofs.Std.{AllByRecursion, eqb-true, false_from_ne_true}
use Rattle.memchr.specs.Find.{NoneBefore, Nowhere, Passes, is_byte}

-- no byte of the list is c
abbrev pub Lacks : ℕ → List ℕ → Type 0
Lacks c bytes = AllByRecursion (λ b. eqb b c ≡ false) bytes

-- where the first byte c stands, by the places before k: the bytes in front of it lack c
front : (c : ℕ) (bytes : List ℕ) (k : ℕ) → k < length bytes → ((j : ℕ) → j < k → eqb (get_or bytes j 0) c ≡ false) → eqb (get_or bytes k 0) c ≡ true
    → Lacks c (take k bytes) × (bytes ≡ take k bytes ++ c ∷ drop (suc k) bytes)
front c [] k l before here = absurd (omega arith)
front c (b ∷ bytes) zero l before here = (tt, ap (λ (x : ℕ). x ∷ bytes) (eqb-true b c here))
front c (b ∷ bytes) (suc k) l before here =
    let more = front c bytes k (omega arith) (λ j h. before (suc j) (omega arith)) here in
    ((before zero (omega arith), more.0), ap (λ (x : List ℕ). b ∷ x) more.1)

-- the bytes before the first c, c, and those behind it
pub cut_at_first : (c : ℕ) (bytes : List ℕ) (k : ℕ) → NoneBefore (Passes (is_byte c) bytes) 0 (length bytes) k × Passes (is_byte c) bytes k
    → Lacks c (take k bytes) × (bytes ≡ take k bytes ++ c ∷ drop (k + 1) bytes)
cut_at_first c bytes k h =
    let f = front c bytes k h.0.high (λ j l. false_from_ne_true (eqb (get_or bytes j 0) c) (h.0.before j (omega arith) l)) h.1 in
    (f.0, rw add-one f.1)

-- bytes of which no place has c lack it
whole : (c : ℕ) (bytes : List ℕ) → ((j : ℕ) → j < length bytes → eqb (get_or bytes j 0) c ≡ false) → Lacks c bytes
whole c [] none = tt
whole c (b ∷ bytes) none = (none zero (omega arith), whole c bytes (λ j h. none (suc j) (omega arith)))

-- where no c is found the bytes have none
pub none_found : (c : ℕ) (bytes : List ℕ) → Nowhere (Passes (is_byte c) bytes) 0 (length bytes) → Lacks c bytes
none_found c bytes h = whole c bytes (λ j l. false_from_ne_true (eqb (get_or bytes j 0) c) (h j (omega arith) l))
