-- Lists of places of which those of registrations that have gone may have been dropped.
use Rattle.dom_base.proofs.Std.{inl, inr, ◌≡◌, ℕ, ◌+◌, ◌<◌, Bool, true, false, ◌&&◌, cond, eqb, List, [], ◌∷◌, ◌++◌, length, Option, Some, None, refl, sym, ap}
use Rattle.dom_base.proofs.Std.{◌∙◌, arith, is_some, if◌then◌else◌, filter, cons_option, cond-true, cond-false, eqb-true, eq-eqb, or_cases, or_left, or_right}
use Rattle.dom_base.proofs.Std.{and_from, and_parts, true≢false, false≢true, filter-append, list_any-append, any-filter_same}
use Rattle.dom_model.proofs.Model.{is_in, Registration}
use Rattle.dom_observers.specs.declared.registered.Registered.{Registered}
use Rattle.dom_observers.specs.Definitions.{there_in, picked, places_from, there_of, AreThinned}

-- ---- numbers that pass a test

-- which of them are among those that pass
in_filter : (q : ℕ → Bool) (i : ℕ) (ks : List ℕ) → is_in eqb i (filter q ks) ≡ (q i && is_in eqb i ks)
in_filter q i ks = any-filter_same (eqb i) q (q i) (λ k e. ap q (sym (eqb-true i k e))) ks

-- those that pass a test are among those that pass one which they pass too
filter-weaker : (q p : ℕ → Bool) (ks : List ℕ) → ((i : ℕ) → is_in eqb i ks ≡ true → p i ≡ true → q i ≡ true) → filter p (filter q ks) ≡ filter p ks
filter-weaker q p [] weak = refl
filter-weaker q p (k ∷ ks) weak =
    by (q k) refl (p k) refl (weak k (or_left (eqb k k) (is_in eqb k ks) (eq-eqb k k refl)))
    (filter-weaker q p ks (λ i e. weak i (or_right (eqb i k) (is_in eqb i ks) e)))
  where
    by : (b : Bool) → q k ≡ b → (c : Bool) → p k ≡ c → (p k ≡ true → q k ≡ true) → filter p (filter q ks) ≡ filter p ks →
        filter p (filter q (k ∷ ks)) ≡ filter p (k ∷ ks)
    by true e c g here rest = ap (filter p) (cond-true (q k) (k ∷ filter q ks) (filter q ks) e) ∙ ap (λ js. cond (p k) (k ∷ js) js) rest
    by false e true g here rest = absurd (true≢false (sym (here g) ∙ e))
    by false e false g here rest =
        ap (filter p) (cond-false (q k) (k ∷ filter q ks) (filter q ks) e) ∙ (rest ∙ sym (cond-false (p k) (k ∷ filter p ks) (filter p ks) g))

-- ---- places of which some were dropped

-- all of those that have gone were
pub thinned-all : (rs : List Registered) (a : List ℕ) → AreThinned rs a (there_of rs a)
thinned-all rs a =
    let p = λ (i : ℕ). is_some (there_in rs i) in
    record { there = filter-weaker p p a (λ i e is. is); fewer = λ i e. (and_parts (p i) (is_in eqb i a) (sym (in_filter p i a) ∙ e)).1 }

-- some, and then some more
pub thinned-again : {rs : List Registered} {a b c : List ℕ} → AreThinned rs a b → AreThinned rs b c → AreThinned rs a c
thinned-again first next = record { there = next.there ∙ first.there; fewer = λ i e. first.fewer i (next.fewer i e) }

-- others stand behind
pub thinned-behind : {rs : List Registered} {a b : List ℕ} → AreThinned rs a b → (c : List ℕ) → AreThinned rs (a ++ c) (b ++ c)
thinned-behind {rs = rs} {a = a} {b = b} thin c =
    let p = λ (i : ℕ). is_some (there_in rs i) in
    record {
      there = filter-append p b c ∙ (ap (λ js. js ++ filter p c) thin.there ∙ sym (filter-append p a c));
      fewer = λ i e. list_any-append (eqb i) a c ∙ elim (or_cases (is_in eqb i b) (is_in eqb i c) (sym (list_any-append (eqb i) b c) ∙ e)) [
        | inl front ↦ or_left (is_in eqb i a) (is_in eqb i c) (thin.fewer i front)
        | inr back ↦ or_right (is_in eqb i a) (is_in eqb i c) back
      ];
    }

-- of a list in which no more of them are there
pub thinned-left : {rs ss : List Registered} {a b : List ℕ} → AreThinned rs a b
    → ((i : ℕ) → is_in eqb i a ≡ true → is_some (there_in ss i) ≡ true → is_some (there_in rs i) ≡ true) → AreThinned ss a b
thinned-left {rs = rs} {ss = ss} {a = a} {b = b} thin weak =
    let q = λ (i : ℕ). is_some (there_in rs i) in
    let p = λ (i : ℕ). is_some (there_in ss i) in
    record {
      there = sym (filter-weaker q p b (λ i e. weak i (thin.fewer i e))) ∙ (ap (filter p) thin.there ∙ filter-weaker q p a weak);
      fewer = thin.fewer;
    }

-- one that is there stays
pub thinned-stays : {rs : List Registered} {a b : List ℕ} → AreThinned rs a b → (i : ℕ) → is_in eqb i a ≡ true → is_some (there_in rs i) ≡ true
    → is_in eqb i b ≡ true
thinned-stays {rs = rs} {a = a} {b = b} thin i in_it is =
    let p = λ (j : ℕ). is_some (there_in rs j) in
    (and_parts (p i) (is_in eqb i b)
    (sym (in_filter p i b) ∙ (ap (is_in eqb i) thin.there ∙ (in_filter p i a ∙ and_from (p i) (is_in eqb i a) is in_it)))).1

-- what is found in some places is found in those of them that are there
picked-there : (rs : List Registered) (a : List ℕ) → picked rs (there_of rs a) ≡ picked rs a
picked-there rs [] = refl
picked-there rs (i ∷ a) = by (there_in rs i) refl (picked-there rs a)
  where
    by : (o : Option (Registration ℕ)) → there_in rs i ≡ o → picked rs (there_of rs a) ≡ picked rs a
        → picked rs (cond (is_some o) (i ∷ there_of rs a) (there_of rs a)) ≡ cons_option o (picked rs a)
    by None e rest = rest
    by (Some t) e rest = ap (λ o. cons_option o (picked rs (there_of rs a))) e ∙ ap (λ ts. t ∷ ts) rest

-- so as much is found as before
pub picked-thinned : {rs : List Registered} {a b : List ℕ} → AreThinned rs a b → picked rs b ≡ picked rs a
picked-thinned {rs = rs} {a = a} {b = b} thin = sym (picked-there rs b) ∙ (ap (picked rs) thin.there ∙ picked-there rs a)

-- ---- the places of a node's registrations

-- they are places of the list
pub places-within : (x n : ℕ) (rs : List (Registration ℕ)) (i : ℕ) → is_in eqb i (places_from x n rs) ≡ true → i < n + length rs
places-within x n [] i e = absurd (false≢true e)
places-within x n (r ∷ rs) i e = by (eqb r.node x) (places-within x (n + 1) rs i) e
  where
    by : (b : Bool) → (is_in eqb i (places_from x (n + 1) rs) ≡ true → i < (n + 1) + length rs)
        → is_in eqb i (cond b (n ∷ places_from x (n + 1) rs) (places_from x (n + 1) rs)) ≡ true → i < n + length (r ∷ rs)
    by true later h = elim (or_cases (eqb i n) (is_in eqb i (places_from x (n + 1) rs)) h) [
      | inl here ↦ let same = eqb-true i n here in omega (arith, same)
      | inr there ↦ let rest = later there in omega (arith, rest)
    ]
    by false later h = let rest = later h in omega (arith, rest)

-- with one registration more
pub places-more : (x n : ℕ) (rs : List (Registration ℕ)) (r : Registration ℕ)
    → places_from x n (rs ++ r ∷ []) ≡ (if eqb r.node x then places_from x n rs ++ (n + length rs) ∷ [] else places_from x n rs)
places-more x n [] r = ap (λ m. cond (eqb r.node x) (m ∷ []) []) (omega arith)
places-more x n (s ∷ rs) r = by (eqb s.node x) (eqb r.node x) (places-more x (n + 1) rs r)
  where
    by : (here last : Bool)
        → places_from x (n + 1) (rs ++ r ∷ []) ≡ cond last (places_from x (n + 1) rs ++ ((n + 1) + length rs) ∷ []) (places_from x (n + 1) rs)
        → cond here (n ∷ places_from x (n + 1) (rs ++ r ∷ [])) (places_from x (n + 1) (rs ++ r ∷ []))
        ≡ cond last (cond here (n ∷ places_from x (n + 1) rs) (places_from x (n + 1) rs) ++ (n + length (s ∷ rs)) ∷ [])
        (cond here (n ∷ places_from x (n + 1) rs) (places_from x (n + 1) rs))
    by true true rest = ap (λ ps. n ∷ ps) rest ∙ ap (λ m. n ∷ places_from x (n + 1) rs ++ m ∷ []) (omega arith)
    by true false rest = ap (λ ps. n ∷ ps) rest
    by false true rest = rest ∙ ap (λ m. places_from x (n + 1) rs ++ m ∷ []) (omega arith)
    by false false rest = rest
