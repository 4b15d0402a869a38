-- A table of listeners as one is taken away or put behind the others, and as its empty places are closed up.
use Rattle.dom_dispatch.proofs.Cited.{◌≡◌, ◌≢◌, ◌⊎◌, inl, inr, ℕ, ◌+◌, ◌<◌, ◌&&◌, Bool, true, false, not, List, [], ◌∷◌, ◌++◌, length, get_or, take}
use Rattle.dom_dispatch.proofs.Cited.{filter, Option, Some, None, zero, suc, refl, sym, ap, subst, ◌∙◌, arith, append-nil}
use Rattle.dom_dispatch.proofs.Cited.{length-append}
use Rattle.dom_dispatch.proofs.Cited.{nat_eq, is_some, slice_get, slice_set, if◌then◌else◌, option_flatten}
use Rattle.dom_dispatch.proofs.Cited.{and-true, and-false, set-append_seam, cond-false, eqb_tells, true≢false, map-append, length_push}
use Rattle.dom_dispatch.proofs.Cited.{take_more, slice_get-get_or, get_or_append_left, filter_map-append}
use Rattle.dom_dispatch.proofs.Cited.{filter-append, filter_more, AllByRecursion, length-set, get_or-set_other, unwrap_or-slice_get}
use Rattle.dom_dispatch.proofs.Cited.{all-filter, all-append, all-then, Listener, Entry}
use Rattle.dom_dispatch.proofs.Cited.{listener_of, listeners_in, present, entry_at}
use Rattle.dom_dispatch.proofs.Cited.{passes, passes_in, is_of_type, places_from, places_at, MayPut}
use Rattle.dom_dispatch.proofs.Cited.{IsIndexed, Places, Word}
use Rattle.dom_dispatch.proofs.Narrowing.{filter-wider}
use Rattle.dom_dispatch.proofs.Placing.{all-but, filter-both, flat, get-seam, places-append, places-less}

-- ---- one listener is taken away

-- The list on both sides of an entry.
pub record IsParted (es : List (Option Entry)) (i : ℕ) : Type 0 where
  pub before : List (Option Entry)
  pub after : List (Option Entry)
  pub entry : Entry
  pub whole : es ≡ before ++ Some entry ∷ after
  pub place : i ≡ length before

pub parted : (p : Listener ℕ → Bool) (es : List (Option Entry)) (i : ℕ) → passes_in p es i ≡ true → IsParted es i
parted p [] i h = cc
parted p (None ∷ es) zero h = cc
parted p (Some e ∷ es) zero h = record { before = []; after = es; entry = e; whole = refl; place = refl }
parted p (o ∷ es) (suc i) h =
    let s = parted p es i h in
    record { before = o ∷ s.before; after = s.after; entry = s.entry; whole = ap (λ xs. o ∷ xs) s.whole; place = ap suc s.place }

module _ (es : List (Option Entry)) (i : ℕ) (s : IsParted es i) where
  -- it is one of the list's
  pub parted-within : i < length es
  parted-within = omega (arith, s.place, ap length s.whole ∙ length-append s.before (Some s.entry ∷ s.after))

  -- the list without the entry
  without : slice_set es i None ≡ s.before ++ None ∷ s.after
  without = (λ j. slice_set (s.whole j) (s.place j) None) ∙ set-append_seam s.before (Some s.entry) s.after None

  -- the entry is there
  there : slice_get es i ≡ Some (Some s.entry)
  there = (λ j. slice_get (s.whole j) (s.place j)) ∙ get-seam s.before (Some s.entry) s.after

  -- one entry less is there
  pub parted-fewer : length (present (slice_set es i None)) + 1 ≡ length (present es)
  parted-fewer =
      let less = ap (λ xs. length (present xs)) without ∙ ap length (filter_map-append (λ o. o) s.before (None ∷ s.after)) ∙
      length-append (present s.before) (present s.after) in
      let all = ap (λ xs. length (present xs)) s.whole ∙ ap length (filter_map-append (λ o. o) s.before (Some s.entry ∷ s.after)) ∙
      length-append (present s.before) (s.entry ∷ present s.after) in
      omega (arith, less, all)

  -- those that fail a test which it passes stay
  pub parted-others : (p : Listener ℕ → Bool) → passes_in p es i ≡ true
      → filter (λ l. not (p l)) (listeners_in (present (slice_set es i None))) ≡ filter (λ l. not (p l)) (listeners_in (present es))
  parted-others p passing =
      let q : Listener ℕ → Bool = λ l. not (p l) in
      let tail : List (Listener ℕ) = listeners_in (present s.after) in
      let is : p (listener_of s.entry) ≡ true = sym (ap (λ o. passes p (option_flatten o)) there) ∙ passing in
      ap (λ xs. filter q (listeners_in (present xs))) without ∙ split q (None ∷ s.after)
      ∙ ap (λ ls. filter q (listeners_in (present s.before)) ++ ls)
      (sym (cond-false (q (listener_of s.entry)) (listener_of s.entry ∷ filter q tail) (filter q tail) (ap not is)))
      ∙ sym (ap (λ xs. filter q (listeners_in (present xs))) s.whole ∙ split q (Some s.entry ∷ s.after))
    where
      split : (q : Listener ℕ → Bool) (ys : List (Option Entry)) →
          filter q (listeners_in (present (s.before ++ ys))) ≡ filter q (listeners_in (present s.before)) ++ filter q (listeners_in (present ys))
      split q ys =
          ap (λ xs. filter q (listeners_in xs)) (filter_map-append (λ o. o) s.before ys) ∙
          ap (filter q) (map-append listener_of (present s.before) (present ys))
          ∙ filter-append q (listeners_in (present s.before)) (listeners_in (present ys))

  -- what passes without it is what passed, but it
  still-passes : (q : Listener ℕ → Bool) (j : ℕ) → passes_in q (slice_set es i None) j ≡ (passes_in q es j && not (nat_eq j i))
  still-passes q j = by (eqb_tells j i)
    where
      by : ((nat_eq j i ≡ true) × (j ≡ i)) ⊎ ((nat_eq j i ≡ false) × (j ≢ i)) →
          passes_in q (slice_set es i None) j ≡ (passes_in q es j && not (nat_eq j i))
      by (inl same) =
          ap (passes_in q (slice_set es i None)) same.1
          ∙ ap (λ o. passes q (option_flatten o)) ((λ k. slice_get (without k) (s.place k)) ∙ get-seam s.before None s.after)
          ∙ sym (ap (λ b. passes_in q es j && not b) same.0 ∙ and-false (passes_in q es j))
      by (inr other) =
          let read : (xs : List (Option Entry)) → entry_at xs j ≡ get_or xs j None = λ xs. flat (slice_get xs j) ∙ unwrap_or-slice_get xs j None in
          ap (passes q) (read (slice_set es i None) ∙ get_or-set_other es i j None None other.1 ∙ sym (read es))
          ∙ sym (ap (λ b. passes_in q es j && not b) other.0 ∙ and-true (passes_in q es j))

  -- the places without it
  module _ (old new : Places) (indexed : IsIndexed old es) (less : (k : ℕ) (t : Word) → filter (λ j. not (nat_eq j i)) (places_at new k t) ≡
      filter (λ j. not (nat_eq j i)) (places_at old k t)) where
    pub indexed-less : IsIndexed new (slice_set es i None)
    indexed-less = record {
      listed = λ k t.
          let q = is_of_type k t in
          let now = passes_in q (slice_set es i None) in
          let other : ℕ → Bool = λ j. not (nat_eq j i) in
          let narrow : (j : ℕ) → now j ≡ true → other j ≡ true = λ j h. and-second (passes_in q es j) (other j) (sym (still-passes q j) ∙ h) in
          sym (filter-wider now other narrow (places_at new k t)) ∙ ap (filter now) (less k t) ∙ filter-wider now other narrow (places_at old k t)
          ∙ sym (filter-both (passes_in q es) other now (still-passes q) (places_at old k t)) ∙ ap (filter other) (indexed.listed k t)
          ∙ places-less q 0 es i i (omega arith);
      within = λ k t.
          let fits : ℕ → Type 0 = λ j. j < length es in
          let all : AllByRecursion fits (filter (λ j. not (nat_eq j i)) (places_at new k t)) =
          subst (AllByRecursion fits) (sym (less k t)) (all-filter fits (λ j. not (nat_eq j i)) (places_at old k t) (indexed.within k t)) in
          subst (λ n. AllByRecursion (λ j. j < n) (places_at new k t)) (sym (length-set es i None)) (all-but fits i parted-within (places_at new k t) all);
    }
      where
        and-second : (a b : Bool) → (a && b) ≡ true → b ≡ true
        and-second true b h = h
        and-second false b h = absurd (true≢false (sym h))

-- ---- one listener is put behind the others

module _ (es : List (Option Entry)) (e : Entry) where
  abbrev more : List (Option Entry)
  more = es ++ Some e ∷ []

  module _ (q : Listener ℕ → Bool) where
    -- what passes in a place passes still
    passes-before : (js : List ℕ) → AllByRecursion (λ j. j < length es) js → filter (passes_in q more) js ≡ filter (passes_in q es) js
    passes-before [] all = refl
    passes-before (j ∷ js) all =
        ap (λ o. if passes q (option_flatten o) then j ∷ filter (passes_in q more) js else filter (passes_in q more) js) (stands j all.0)
        ∙ ap (λ ks. if passes_in q es j then j ∷ ks else ks) (passes-before js all.1)
      where
        stands : (j : ℕ) → j < length es → slice_get more j ≡ slice_get es j
        stands j h =
            slice_get-get_or more j None (omega (arith, h, length_push es (Some e))) ∙ ap Some (get_or_append_left es (Some e ∷ []) None j h)
            ∙ sym (slice_get-get_or es j None h)

    -- the places with it
    places-more : places_from q 0 more ≡ places_from q 0 es ++ (if q (listener_of e) then length es ∷ [] else [])
    places-more = places-append q 0 es (Some e ∷ []) ∙ ap (λ m. places_from q 0 es ++ places_from q m (Some e ∷ [])) (omega arith)

    listed-put : (old new : List ℕ) → AllByRecursion (λ j. j < length es) old → filter (passes_in q es) old ≡ places_from q 0 es →
        MayPut (q (listener_of e)) (length es) old new → filter (passes_in q more) new ≡ places_from q 0 more
    listed-put old new all just (inl put) =
        ap (filter (passes_in q more)) put ∙ filter-append (passes_in q more) old (length es ∷ [])
        ∙ (λ j. (passes-before old all ∙ just) j ++ (if passes q (option_flatten (get-seam es (Some e) [] j)) then length es ∷ [] else []))
        ∙ sym places-more
    listed-put old new all just (inr stay) =
        ap (filter (passes_in q more)) stay.0 ∙ passes-before old all ∙ just ∙ sym (append-nil (places_from q 0 es))
        ∙ sym (places-more ∙ ap (λ b. places_from q 0 es ++ (if b then length es ∷ [] else [])) stay.1)

  within-put : (own : Bool) (old new : List ℕ) → AllByRecursion (λ j. j < length es) old → MayPut own (length es) old new →
      AllByRecursion (λ j. j < length more) new
  within-put own old new all put = by put
    where
      fits : ℕ → Type 0
      fits j = j < length more

      still : AllByRecursion fits old
      still = all-then (λ j. j < length es) fits (λ j h. omega (arith, h, length_push es (Some e))) old all

      by : MayPut own (length es) old new → AllByRecursion fits new
      by (inl put) = subst (AllByRecursion fits) (sym put) (all-append fits old (length es ∷ []) still (omega (arith, length_push es (Some e)), tt))
      by (inr stay) = subst (AllByRecursion fits) (sym stay.0) still

  pub indexed-more : (old new : Places) → IsIndexed old es →
      ((k : ℕ) (t : Word) → MayPut (is_of_type k t (listener_of e)) (length es) (places_at old k t) (places_at new k t)) → IsIndexed new more
  indexed-more old new indexed put = record {
    listed = λ k t. listed-put (is_of_type k t) (places_at old k t) (places_at new k t) (indexed.within k t) (indexed.listed k t) (put k t);
    within = λ k t. within-put (is_of_type k t (listener_of e)) (places_at old k t) (places_at new k t) (indexed.within k t) (put k t);
  }

-- the same of what is the same
pub put-same : {own now : Bool} {n m : ℕ} {old new : List ℕ} → own ≡ now → n ≡ m → MayPut own n old new → MayPut now m old new
put-same {own} {now} {n} {m} {old} {new} e f put = subst (λ j. MayPut now j old new) f (subst (λ b. MayPut b n old new) e put)

-- ---- closing up

module _ (es : List (Option Entry)) (i : ℕ) (o : Option Entry) (h : i < length es) (g : o ≡ get_or es i o) where
  -- the next place has a listener, or not
  pub counted-next : length (present (take (i + 1) es)) ≡ length (present (take i es)) + (if is_some o then 1 else 0)
  counted-next =
      ap (λ xs. length (present xs)) (take_more es i o h ∙ ap (λ x. take i es ++ x ∷ []) (sym g))
      ∙ ap length (filter_map-append (λ x. x) (take i es) (o ∷ []))
      ∙ length-append (present (take i es)) (present (o ∷ []))
      ∙ ap (λ n. length (present (take i es)) + n) (by o)
    where
      by : (o : Option Entry) → length (present (o ∷ [])) ≡ (if is_some o then 1 else 0)
      by None = refl
      by (Some e) = refl

  -- and is kept, or not
  pub closed-next : filter is_some (take (i + 1) es) ≡ filter is_some (take i es) ++ (if is_some o then o ∷ [] else [])
  closed-next = filter_more is_some es i o h ∙ ap (λ x. filter is_some (take i es) ++ (if is_some x then x ∷ [] else [])) (sym g)

-- those that are there stay
pub closed-present : (es : List (Option Entry)) → present (filter is_some es) ≡ present es
closed-present [] = refl
closed-present (None ∷ es) = closed-present es
closed-present (Some e ∷ es) = ap (λ xs. e ∷ xs) (closed-present es)
