-- No observer has two registrations on a node that it asked for.
use Rattle.dom_base.proofs.Std.{◌≡◌, ℕ, ◌+◌, ◌≤◌, Bool, true, false, not, ◌&&◌, cond, eqb, List, [], ◌∷◌, ◌++◌, length, map, refl, ap, ◌∙◌, subst, arith}
use Rattle.dom_base.proofs.Std.{list_any, filter, eqb-true, or_parts, and_right, length-append, filter-append}
use Rattle.dom_model.proofs.Model.{ObserveWords, Registration, asked_for, copied_from, copied_from_transient, is_transient, is_asked_for, with_options}
use Rattle.dom_observers.specs.Definitions.{transient_copy}

-- how many an observer asked for on a node
abbrev pub asked : ℕ → ℕ → List (Registration ℕ) → ℕ
asked k x rs = length (filter (is_asked_for eqb k x) rs)

-- never two
abbrev pub AreOnce : List (Registration ℕ) → Type 0
AreOnce rs = (k x : ℕ) → asked k x rs ≤ 1

-- one, if a test holds
abbrev pub one_if : Bool → ℕ
one_if b = cond b 1 0

-- one in front of others
pub asked-next : (k x : ℕ) (r : Registration ℕ) (rs : List (Registration ℕ)) → asked k x (r ∷ rs) ≡ one_if (is_asked_for eqb k x r) + asked k x rs
asked-next k x r rs = by (is_asked_for eqb k x r)
  where
    by : (b : Bool) → length (cond b (r ∷ filter (is_asked_for eqb k x) rs) (filter (is_asked_for eqb k x) rs)) ≡ one_if b + asked k x rs
    by true = omega arith
    by false = omega arith

pub asked-append : (k x : ℕ) (rs ss : List (Registration ℕ)) → asked k x (rs ++ ss) ≡ asked k x rs + asked k x ss
asked-append k x rs ss =
    ap length (filter-append (is_asked_for eqb k x) rs ss) ∙ length-append (filter (is_asked_for eqb k x) rs) (filter (is_asked_for eqb k x) ss)

-- where none is asked for
asked-none : (k x : ℕ) (rs : List (Registration ℕ)) → list_any (is_asked_for eqb k x) rs ≡ false → asked k x rs ≡ 0
asked-none k x [] e = refl
asked-none k x (r ∷ rs) e =
    let parts = or_parts (is_asked_for eqb k x r) (list_any (is_asked_for eqb k x) rs) e in
    let next = asked-next k x r rs in
    let none : one_if (is_asked_for eqb k x r) ≡ 0 = ap one_if parts.0 in
    let rest = asked-none k x rs parts.1 in
    omega (arith, next, none, rest)

-- ---- lists that change

-- fewer of them
pub once-filter : (p : Registration ℕ → Bool) (rs : List (Registration ℕ)) → AreOnce rs → AreOnce (filter p rs)
once-filter p rs once k x = let fewer = less rs in let most = once k x in omega (arith, fewer, most)
  where
    less : (ts : List (Registration ℕ)) → asked k x (filter p ts) ≤ asked k x ts
    less [] = omega arith
    less (t ∷ ts) = by (p t) (less ts)
      where
        by : (b : Bool) → asked k x (filter p ts) ≤ asked k x ts → asked k x (cond b (t ∷ filter p ts) (filter p ts)) ≤ asked k x (t ∷ ts)
        by true rest = let here = asked-next k x t (filter p ts) in let all = asked-next k x t ts in omega (arith, here, all, rest)
        by false rest = let all = asked-next k x t ts in omega (arith, all, rest)

-- transient copies behind them
pub once-copies : (node : ℕ) (rs from : List (Registration ℕ)) → AreOnce rs → AreOnce (rs ++ map (transient_copy node) from)
once-copies node rs from once k x =
    let both = asked-append k x rs (map (transient_copy node) from) in
    let most = once k x in
    let none = copied from in
    omega (arith, both, most, none)
  where
    lasts : (t : Registration ℕ) → is_asked_for eqb k x (transient_copy node t) ≡ false
    lasts t = by (is_transient t.source)
      where
        by : (b : Bool) → (eqb t.observer k && (eqb node x && not (is_transient (cond b copied_from_transient (copied_from t.node))))) ≡ false
        by true = and_right (eqb t.observer k) (eqb node x && false) (and_right (eqb node x) false refl)
        by false = and_right (eqb t.observer k) (eqb node x && false) (and_right (eqb node x) false refl)

    copied : (ts : List (Registration ℕ)) → asked k x (map (transient_copy node) ts) ≡ 0
    copied [] = refl
    copied (t ∷ ts) =
        let next = asked-next k x (transient_copy node t) (map (transient_copy node) ts) in
        let none : one_if (is_asked_for eqb k x (transient_copy node t)) ≡ 0 = ap one_if (lasts t) in
        let rest = copied ts in
        omega (arith, next, none, rest)

-- a new one behind them
pub once-new : (k x : ℕ) (o : ObserveWords) (rs : List (Registration ℕ)) → list_any (is_asked_for eqb k x) rs ≡ false → AreOnce rs
    → AreOnce (rs ++ record { node = x; observer = k; options = o; source = asked_for } ∷ [])
once-new k x o rs none once j y = by (eqb k j) (eqb x y) refl refl
  where
    r : Registration ℕ
    r = record { node = x; observer = k; options = o; source = asked_for }

    most : asked j y rs ≤ 1
    most = once j y

    both : asked j y (rs ++ r ∷ []) ≡ asked j y rs + one_if (eqb k j && (eqb x y && true))
    both = let all = asked-append j y rs (r ∷ []) in let last = asked-next j y r [] in omega (arith, all, last)

    by : (b c : Bool) → eqb k j ≡ b → eqb x y ≡ c → asked j y (rs ++ r ∷ []) ≤ 1
    by true true e g =
        let free : asked j y rs ≡ 0 =
        subst (λ i. asked i y rs ≡ 0) (eqb-true k j e) (subst (λ z. asked k z rs ≡ 0) (eqb-true x y g) (asked-none k x rs none)) in
        let one : one_if (eqb k j && (eqb x y && true)) ≡ 1 = ap one_if (ap (λ d. d && (eqb x y && true)) e ∙ ap (λ d. d && true) g) in
        omega (arith, both, free, one)
    by true false e g =
        let one : one_if (eqb k j && (eqb x y && true)) ≡ 0 = ap one_if (ap (λ d. d && (eqb x y && true)) e ∙ ap (λ d. d && true) g) in
        omega (arith, both, most, one)
    by false c e g =
        let one : one_if (eqb k j && (eqb x y && true)) ≡ 0 = ap one_if (ap (λ d. d && (eqb x y && true)) e) in
        omega (arith, both, most, one)

-- one with other options is asked for as before
asked-options : (k x : ℕ) (o : ObserveWords) (j y : ℕ) (r : Registration ℕ) → is_asked_for eqb j y (with_options eqb k x o r) ≡ is_asked_for eqb j y r
asked-options k x o j y r = by (is_asked_for eqb k x r)
  where
    by : (b : Bool) → is_asked_for eqb j y (cond b (record r { options = o }) r) ≡ is_asked_for eqb j y r
    by true = refl
    by false = refl

pub once-options : (k x : ℕ) (o : ObserveWords) (rs : List (Registration ℕ)) → AreOnce rs → AreOnce (map (with_options eqb k x o) rs)
once-options k x o rs once j y = let same = even rs in let most = once j y in omega (arith, same, most)
  where
    even : (ts : List (Registration ℕ)) → asked j y (map (with_options eqb k x o) ts) ≡ asked j y ts
    even [] = refl
    even (t ∷ ts) =
        let next = asked-next j y (with_options eqb k x o t) (map (with_options eqb k x o) ts) in
        let same : one_if (is_asked_for eqb j y (with_options eqb k x o t)) ≡ one_if (is_asked_for eqb j y t) = ap one_if (asked-options k x o j y t) in
        let before = asked-next j y t ts in
        let rest = even ts in
        omega (arith, next, same, before, rest)
