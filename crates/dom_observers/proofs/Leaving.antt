-- Lists in which some registrations have gone: what is there, and what is left where those in some places that go were taken away.
use Rattle.dom_base.proofs.Std.{inl, inr, ◌≡◌, ℕ, zero, suc, ◌+◌, ◌<◌, ◌≤◌, Bool, true, false, not, ◌&&◌, ◌||◌, cond, eqb, List, [], ◌∷◌, ◌++◌, length, map}
use Rattle.dom_base.proofs.Std.{get_or, set, Option, Some, None, refl, sym, ap, ◌∙◌, subst, arith, slice_get, list_any, filter, cons_option, option_map_or}
use Rattle.dom_base.proofs.Std.{set-append_seam, cond-true, cond-false, cases_eq, eqb-true, ne_eqb, eq-eqb, or_parts, or_from, true≢false, false≢true}
use Rattle.dom_base.proofs.Std.{none-some, same_Some, slice_get_within, slice_get-get_or, length-append, map-append, filter-append, filter_map-append}
use Rattle.dom_base.proofs.Std.{list_any-append}
use Rattle.dom_model.proofs.Model.{is_in, Registration}
use Rattle.dom_observers.specs.declared.registered.Registered.{Registered}
use Rattle.dom_observers.specs.declared.removal.Removal.{Removal}
use Rattle.dom_observers.specs.Definitions.{registration_of, unless_gone, those_there, there_in, AreThere, goes, HaveLeft}
use Rattle.dom_observers.proofs.Tables.{slice_get-set_other}

-- ---- what is there

-- one that has not gone
pub unless-there : (r : Registered) → r.has_gone ≡ false → unless_gone r ≡ Some (registration_of r)
unless-there r e = cond-false r.has_gone None (Some (registration_of r)) e

-- no more are there than the list has
pub there-fewer : (rs : List Registered) → length (those_there rs) ≤ length rs
there-fewer [] = omega arith
there-fewer (r ∷ rs) = by (unless_gone r) (there-fewer rs)
  where
    by : (o : Option (Registration ℕ)) → length (those_there rs) ≤ length rs → length (cons_option o (those_there rs)) ≤ length (r ∷ rs)
    by None rest = omega (arith, rest)
    by (Some t) rest = omega (arith, rest)

-- in which places they are
pub there-within : (rs : List Registered) (i : ℕ) (t : Registration ℕ) → there_in rs i ≡ Some t → i < length rs
there-within [] i t e = absurd (none-some t e)
there-within (r ∷ rs) zero t e = omega arith
there-within (r ∷ rs) (suc i) t e = let rest = there-within rs i t e in omega (arith, rest)

-- and which they are
pub there-raw : (rs : List Registered) (i : ℕ) (t : Registration ℕ) → there_in rs i ≡ Some t → slice_get (map registration_of rs) i ≡ Some t
there-raw [] i t e = absurd (none-some t e)
there-raw (r ∷ rs) zero t e = by r.has_gone e
  where
    by : (b : Bool) → cond b None (Some (registration_of r)) ≡ Some t → Some (registration_of r) ≡ Some t
    by true g = absurd (none-some t g)
    by false g = g
there-raw (r ∷ rs) (suc i) t e = there-raw rs i t e

-- with others behind
pub there-append : (rs more : List Registered) (i : ℕ) → i < length rs → there_in (rs ++ more) i ≡ there_in rs i
there-append [] more i short = absurd (omega (arith, short))
there-append (r ∷ rs) more zero short = refl
there-append (r ∷ rs) more (suc i) short = there-append rs more i (omega (arith, short))

-- where none passes a test, none of those that are there does
pub any-there : (p : Registration ℕ → Bool) (rs : List Registered) → list_any p (map registration_of rs) ≡ false → list_any p (those_there rs) ≡ false
any-there p [] e = refl
any-there p (r ∷ rs) e =
    let parts = or_parts (p (registration_of r)) (list_any p (map registration_of rs)) e in
    by r.has_gone parts.0 (any-there p rs parts.1)
  where
    by : (b : Bool) → p (registration_of r) ≡ false → list_any p (those_there rs) ≡ false
        → list_any p (cons_option (cond b None (Some (registration_of r))) (those_there rs)) ≡ false
    by true off rest = rest
    by false off rest = or_from (p (registration_of r)) (list_any p (those_there rs)) off rest

-- a test that none in any place passes keeps all
pub none-pass : (p : Registration ℕ → Bool) (rs : List Registered) → ((i : ℕ) (t : Registration ℕ) → there_in rs i ≡ Some t → p t ≡ false)
    → filter (λ t. not (p t)) (those_there rs) ≡ those_there rs
none-pass p [] off = refl
none-pass p (r ∷ rs) off = by (unless_gone r) refl (none-pass p rs (λ i t e. off (suc i) t e))
  where
    by : (o : Option (Registration ℕ)) → unless_gone r ≡ o → filter (λ t. not (p t)) (those_there rs) ≡ those_there rs
        → filter (λ t. not (p t)) (cons_option o (those_there rs)) ≡ cons_option o (those_there rs)
    by None e rest = rest
    by (Some t) e rest =
        cond-true (not (p t)) (t ∷ filter (λ s. not (p s)) (those_there rs)) (filter (λ s. not (p s)) (those_there rs)) (ap not (off zero t e))
        ∙ ap (λ ts. t ∷ ts) rest

-- what is kept of a list is what is kept of those that are there
pub there-kept : (p : Registration ℕ → Bool) (rs : List Registered)
    → those_there (filter (λ r. not r.has_gone && not (p (registration_of r))) rs) ≡ filter (λ t. not (p t)) (those_there rs)
there-kept p [] = refl
there-kept p (r ∷ rs) = by r.has_gone refl (p (registration_of r)) refl (there-kept p rs)
  where
    q : Registered → Bool
    q s = not s.has_gone && not (p (registration_of s))

    n : Registration ℕ → Bool
    n t = not (p t)

    by : (b : Bool) → r.has_gone ≡ b → (c : Bool) → p (registration_of r) ≡ c → those_there (filter q rs) ≡ filter n (those_there rs)
        → those_there (filter q (r ∷ rs)) ≡ filter n (cons_option (unless_gone r) (those_there rs))
    by true e c g rest =
        ap those_there (cond-false (q r) (r ∷ filter q rs) (filter q rs) (ap (λ d. not d && not (p (registration_of r))) e))
        ∙ (rest ∙ ap (λ o. filter n (cons_option o (those_there rs))) (sym (cond-true r.has_gone None (Some (registration_of r)) e)))
    by false e true g rest =
        ap those_there (cond-false (q r) (r ∷ filter q rs) (filter q rs)
        (ap (λ d. not d && not (p (registration_of r))) e ∙ ap not g))
        ∙ (rest ∙ (sym (cond-false (n (registration_of r)) (registration_of r ∷ filter n (those_there rs)) (filter n (those_there rs)) (ap not g))
        ∙ ap (λ o. filter n (cons_option o (those_there rs))) (sym (unless-there r e))))
    by false e false g rest =
        ap those_there (cond-true (q r) (r ∷ filter q rs) (filter q rs)
        (ap (λ d. not d && not (p (registration_of r))) e ∙ ap not g))
        ∙ (ap (λ o. cons_option o (those_there (filter q rs))) (unless-there r e)
        ∙ (ap (λ ts. registration_of r ∷ ts) rest
        ∙ (sym (cond-true (n (registration_of r)) (registration_of r ∷ filter n (those_there rs)) (filter n (those_there rs)) (ap not g))
        ∙ ap (λ o. filter n (cons_option o (those_there rs))) (sym (unless-there r e)))))

-- and all that is kept is there
pub kept-there : (p : Registration ℕ → Bool) (rs : List Registered)
    → length (those_there (filter (λ r. not r.has_gone && not (p (registration_of r))) rs))
    ≡ length (filter (λ r. not r.has_gone && not (p (registration_of r))) rs)
kept-there p [] = refl
kept-there p (r ∷ rs) = by r.has_gone refl (not (p (registration_of r))) refl (kept-there p rs)
  where
    q : Registered → Bool
    q s = not s.has_gone && not (p (registration_of s))

    by : (b : Bool) → r.has_gone ≡ b → (c : Bool) → not (p (registration_of r)) ≡ c → length (those_there (filter q rs)) ≡ length (filter q rs)
        → length (those_there (filter q (r ∷ rs))) ≡ length (filter q (r ∷ rs))
    by true e c g rest =
        let less = cond-false (q r) (r ∷ filter q rs) (filter q rs) (ap (λ d. not d && not (p (registration_of r))) e) in
        ap (λ xs. length (those_there xs)) less ∙ (rest ∙ ap length (sym less))
    by false e false g rest =
        let less = cond-false (q r) (r ∷ filter q rs) (filter q rs) (ap (λ d. not d && not (p (registration_of r))) e ∙ g) in
        ap (λ xs. length (those_there xs)) less ∙ (rest ∙ ap length (sym less))
    by false e true g rest =
        let more = cond-true (q r) (r ∷ filter q rs) (filter q rs) (ap (λ d. not d && not (p (registration_of r))) e ∙ g) in
        ap (λ xs. length (those_there xs)) more
        ∙ (ap (λ o. length (cons_option o (those_there (filter q rs)))) (unless-there r e) ∙ (ap suc rest ∙ ap length (sym more)))

-- one more behind others, none of which has gone
pub AreThere-push : (rs : List Registered) (r : Registered) → r.has_gone ≡ false → AreThere rs → AreThere (rs ++ r ∷ [])
AreThere-push rs r e there =
    filter_map-append unless_gone rs (r ∷ [])
    ∙ (ap (λ o. those_there rs ++ cons_option o []) (unless-there r e)
    ∙ (ap (λ ts. ts ++ registration_of r ∷ []) there ∙ sym (map-append registration_of rs (r ∷ []))))

-- ---- a list on both sides of one of its places

pub record IsParted {X : Type 0} (xs : List X) (i : ℕ) (x : X) : Type 0 where
  pub before : List X
  pub after : List X
  pub whole : xs ≡ before ++ x ∷ after
  pub place : i ≡ length before

pub parted : {X : Type 0} (xs : List X) (i : ℕ) (x : X) → slice_get xs i ≡ Some x → IsParted xs i x
parted [] i x e = absurd (none-some x e)
parted (y ∷ ys) zero x e = record { before = []; after = ys; whole = ap (λ z. z ∷ ys) (same_Some y x e); place = refl }
parted (y ∷ ys) (suc i) x e =
    let p = parted ys i x e in
    record { before = y ∷ p.before; after = p.after; whole = ap (λ zs. y ∷ zs) p.whole; place = ap suc p.place }

-- the list with another one in the place
pub parted-set : {X : Type 0} {xs : List X} {i : ℕ} {x : X} (p : IsParted xs i x) (y : X) → set xs i y ≡ p.before ++ y ∷ p.after
parted-set {x = x} p y = (λ j. set (p.whole j) (p.place j) y) ∙ set-append_seam p.before x p.after y

-- a registration in a place
pub there-got : (rs : List Registered) (i : ℕ) (r : Registered) → slice_get rs i ≡ Some r → there_in rs i ≡ unless_gone r
there-got rs i r e = ap (λ o. option_map_or unless_gone o None) e

-- what stands in a place that was written
get-set : {X : Type 0} (xs : List X) (i : ℕ) (y x : X) → slice_get xs i ≡ Some x → slice_get (set xs i y) i ≡ Some y
get-set [] i y x e = absurd (none-some x e)
get-set (z ∷ zs) zero y x e = refl
get-set (z ∷ zs) (suc i) y x e = get-set zs i y x e

-- what is there in all places
pub there-set : (rs : List Registered) (i : ℕ) (r s : Registered) → slice_get rs i ≡ Some r → (j : ℕ)
    → there_in (set rs i s) j ≡ cond (eqb j i) (unless_gone s) (there_in rs j)
there-set rs i r s at j = by (eqb j i) refl
  where
    by : (b : Bool) → eqb j i ≡ b → there_in (set rs i s) j ≡ cond b (unless_gone s) (there_in rs j)
    by true e = subst (λ k. there_in (set rs i s) k ≡ unless_gone s) (sym (eqb-true j i e)) (there-got (set rs i s) i s (get-set rs i s r at))
    by false e = ap (λ o. option_map_or unless_gone o None) (slice_get-set_other rs i j s e)

-- one that is there and passes a test
pub record IsThere (p : Registration ℕ → Bool) (rs : List Registered) (i : ℕ) (r : Registered) : Type 0 where
  pub at : slice_get rs i ≡ Some r
  pub there : r.has_gone ≡ false
  pub passes : p (registration_of r) ≡ true

pub passing : (p : Registration ℕ → Bool) (rs : List Registered) (i : ℕ) → option_map_or p (there_in rs i) false ≡ true → (r : Registered) × IsThere p rs i r
passing p [] i e = absurd (false≢true e)
passing p (r ∷ rs) zero e = by r.has_gone refl e
  where
    by : (b : Bool) → r.has_gone ≡ b → option_map_or p (cond b None (Some (registration_of r))) false ≡ true → (s : Registered) × IsThere p (r ∷ rs) zero s
    by true g h = absurd (false≢true h)
    by false g h = (r, record { at = refl; there = g; passes = h })
passing p (r ∷ rs) (suc i) e = let rest = passing p rs i e in (rest.0, record { at = rest.1.at; there = rest.1.there; passes = rest.1.passes })

-- the one that is read there
pub passing-read : (p : Registration ℕ → Bool) (rs : List Registered) (i : ℕ) (r : Registered) → option_map_or p (there_in rs i) false ≡ true →
    r ≡ get_or rs i r → IsThere p rs i r
passing-read p rs i r e is =
    let one = passing p rs i e in
    let read : slice_get rs i ≡ Some r = slice_get-get_or rs i r (slice_get_within rs i one.0 one.1.at) ∙ ap Some (sym is) in
    subst (IsThere p rs i) (same_Some one.0 r (sym one.1.at ∙ read)) one.1

-- ---- those that are taken away

-- one that goes
pub left-one : (removal : Removal) {rs : List Registered} {i : ℕ} {r : Registered} → IsThere (goes removal) rs i r
    → HaveLeft removal (i ∷ []) 1 rs (set rs i (record r { has_gone = true }))
left-one removal {rs = rs} {i = i} {r = r} one = record {
  same = ap (map registration_of) now ∙ (map-append registration_of p.before (s ∷ p.after)
      ∙ sym (ap (map registration_of) p.whole ∙ map-append registration_of p.before (r ∷ p.after)));
  counted =
      let less = ap (λ xs. length (those_there xs)) now ∙ (ap length (filter_map-append unless_gone p.before (s ∷ p.after))
      ∙ length-append (those_there p.before) (those_there p.after)) in
      let all = ap (λ xs. length (those_there xs)) p.whole ∙ (ap length (filter_map-append unless_gone p.before (r ∷ p.after))
      ∙ length-append (those_there p.before) (those_there (r ∷ p.after))) in
      let first = ap (λ o. length (cons_option o (those_there p.after))) (unless-there r one.there) in
      omega (arith, less, all, first);
  others =
      ap (λ xs. filter q (those_there xs)) now ∙ (split (s ∷ p.after)
      ∙ (ap (λ ts. filter q (those_there p.before) ++ ts) (sym here)
      ∙ sym (ap (λ xs. filter q (those_there xs)) p.whole ∙ split (r ∷ p.after))));
  fewer = λ j t e. elim (cases_eq j i) [
    | inl same ↦ absurd (none-some t (sym (gone j same) ∙ e))
    | inr other ↦ sym (there-set rs i r s one.at j ∙ cond-false (eqb j i) (unless_gone s) (there_in rs j) (ne_eqb j i other)) ∙ e
  ];
  gone = λ j t in_it e. elim (cases_eq j i) [
    | inl same ↦ absurd (none-some t (sym (gone j same) ∙ e))
    | inr other ↦ absurd (true≢false (sym in_it ∙ or_from (eqb j i) false (ne_eqb j i other) refl))
  ];
}
  where
    s : Registered
    s = record r { has_gone = true }

    p : IsParted rs i r
    p = parted rs i r one.at

    now : set rs i s ≡ p.before ++ s ∷ p.after
    now = parted-set p s

    q : Registration ℕ → Bool
    q t = not (goes removal t)

    gone : (j : ℕ) → j ≡ i → there_in (set rs i s) j ≡ None
    gone j same = there-set rs i r s one.at j ∙ cond-true (eqb j i) None (there_in rs j) (eq-eqb j i same)

    split : (ys : List Registered) → filter q (those_there (p.before ++ ys)) ≡ filter q (those_there p.before) ++ filter q (those_there ys)
    split ys = ap (filter q) (filter_map-append unless_gone p.before ys) ∙ filter-append q (those_there p.before) (those_there ys)

    here : filter q (those_there (r ∷ p.after)) ≡ filter q (those_there p.after)
    here =
        ap (λ o. filter q (cons_option o (those_there p.after))) (unless-there r one.there)
        ∙ cond-false (q (registration_of r)) (registration_of r ∷ filter q (those_there p.after)) (filter q (those_there p.after)) (ap not one.passes)

-- one that does not
pub left-none : (removal : Removal) (rs : List Registered) (i : ℕ) → option_map_or (goes removal) (there_in rs i) false ≡ false →
    HaveLeft removal (i ∷ []) 0 rs rs
left-none removal rs i off = record {
  same = refl;
  counted = omega arith;
  others = refl;
  fewer = λ j t e. e;
  gone = λ j t in_it e. elim (cases_eq j i) [
    | inl same ↦ sym (ap (λ o. option_map_or (goes removal) o false) (sym (ap (there_in rs) same) ∙ e)) ∙ off
    | inr other ↦ absurd (true≢false (sym in_it ∙ or_from (eqb j i) false (ne_eqb j i other) refl))
  ];
}

-- none is looked at
pub left-first : (removal : Removal) (rs : List Registered) → HaveLeft removal [] 0 rs rs
left-first removal rs = record {
  same = refl;
  counted = omega arith;
  others = refl;
  fewer = λ j t e. e;
  gone = λ j t in_it e. absurd (false≢true in_it);
}

-- some, and then others
pub left-more : {removal : Removal} {xs ys : List ℕ} {n m : ℕ} {a b c : List Registered} → HaveLeft removal xs n a b → HaveLeft removal ys m b c
    → HaveLeft removal (xs ++ ys) (n + m) a c
left-more {removal = removal} {xs = xs} {ys = ys} {n = n} {m = m} {c = c} first next = record {
  same = next.same ∙ first.same;
  counted = omega (arith, first.counted, next.counted);
  others = next.others ∙ first.others;
  fewer = λ j t e. first.fewer j t (next.fewer j t e);
  gone = λ j t in_it e. by j t e (is_in eqb j xs) refl (sym (list_any-append (eqb j) xs ys) ∙ in_it);
}
  where
    by : (j : ℕ) (t : Registration ℕ) → there_in c j ≡ Some t → (d : Bool) → is_in eqb j xs ≡ d → (is_in eqb j xs || is_in eqb j ys) ≡ true
        → goes removal t ≡ false
    by j t e true g in_it = first.gone j t g (next.fewer j t e)
    by j t e false g in_it = next.gone j t (sym (ap (λ d. d || is_in eqb j ys) g) ∙ in_it) e

-- All that go are in the places.
module _ {removal : Removal} {places : List ℕ} {n : ℕ} {a b : List Registered} (left : HaveLeft removal places n a b)
    (found : (i : ℕ) (t : Registration ℕ) → there_in a i ≡ Some t → goes removal t ≡ true → is_in eqb i places ≡ true) where
  -- none that goes is left
  left-stays : (i : ℕ) (t : Registration ℕ) → there_in b i ≡ Some t → goes removal t ≡ false
  left-stays i t e = by (goes removal t) refl
    where
      by : (d : Bool) → goes removal t ≡ d → goes removal t ≡ false
      by true g = left.gone i t (found i t (left.fewer i t e) g) e
      by false g = g

  -- the others are
  pub left-all : those_there b ≡ filter (λ t. not (goes removal t)) (those_there a)
  left-all = sym (none-pass (goes removal) b left-stays) ∙ left.others
