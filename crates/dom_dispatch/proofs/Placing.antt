-- The places of listeners in a table, and the entries in them.
use Rattle.dom_dispatch.proofs.Cited.{◌≡◌, ◌≢◌, ◌⊎◌, inl, inr, ℕ, ◌+◌, ◌<◌, ◌&&◌, ◌||◌, Bool, true, false, cond, not, List, [], ◌∷◌, ◌++◌, length, take}
use Rattle.dom_dispatch.proofs.Cited.{filter, find, Option, Some, None, IfSome, zero, suc, refl, sym, ap, subst, ◌∙◌, arith, append_assoc, append-nil}
use Rattle.dom_dispatch.proofs.Cited.{nat_eq, is_some, slice_get, slice_set, if◌then◌else◌, list_any, cons_option, option_flatten, option_map_or}
use Rattle.dom_dispatch.proofs.Cited.{cond-true, cond-false, ne_eqb, eqb_tells, map-append, length_push}
use Rattle.dom_dispatch.proofs.Cited.{take_more, slice_get_within, get_or_from_slice_get, filter_map-append}
use Rattle.dom_dispatch.proofs.Cited.{filter-append, any-filter_same, AllByRecursion, unwrap_or}
use Rattle.dom_dispatch.proofs.Cited.{first_in, rest_in, places_in, PlaceList, by_cases, filter-map, Listener, Entry}
use Rattle.dom_dispatch.proofs.Cited.{listener_of, listeners_in, present, entry_at, picked}
use Rattle.dom_dispatch.proofs.Cited.{and_parts, and_from, beq, text_eq, is_listener, hears_at, passes, passes_in, is_of_type, places_from}
use Rattle.dom_dispatch.proofs.Cited.{IsIndexed, Places, Word}
use Rattle.dom_dispatch.proofs.Narrowing.{filter-wider}

-- what stands behind others
pub get-seam : {X : Type 0} (xs : List X) (y : X) (ys : List X) → slice_get (xs ++ y ∷ ys) (length xs) ≡ Some y
get-seam [] y ys = refl
get-seam (x ∷ xs) y ys = get-seam xs y ys

-- what is read of an entry that may not be there
pub flat : (o : Option (Option Entry)) → option_flatten o ≡ unwrap_or o None
flat None = refl
flat (Some o) = refl

-- what passes two tests
pub filter-both : {X : Type 0} (p q r : X → Bool) → ((x : X) → r x ≡ (p x && q x)) → (xs : List X) → filter q (filter p xs) ≡ filter r xs
filter-both p q r both [] = refl
filter-both p q r both (x ∷ xs) = by (p x) (filter-both p q r both xs) ∙ sym (ap (λ b. if b then x ∷ filter r xs else filter r xs) (both x))
  where
    by : (b : Bool) → filter q (filter p xs) ≡ filter r xs →
        filter q (if b then x ∷ filter p xs else filter p xs) ≡ (if b && q x then x ∷ filter r xs else filter r xs)
    by true rest = ap (λ ys. if q x then x ∷ ys else ys) rest
    by false rest = rest

-- all fit, if one does and all others do
pub all-but : (P : ℕ → Type 0) (i : ℕ) → P i → (js : List ℕ) → AllByRecursion P (filter (λ j. not (nat_eq j i)) js) → AllByRecursion P js
all-but P i it [] all = tt
all-but P i it (j ∷ js) all = by (eqb_tells j i) (all-but P i it js)
  where
    rest : List ℕ
    rest = filter (λ k. not (nat_eq k i)) js

    by : ((nat_eq j i ≡ true) × (j ≡ i)) ⊎ ((nat_eq j i ≡ false) × (j ≢ i)) → (AllByRecursion P rest → AllByRecursion P js) → AllByRecursion P (j ∷ js)
    by (inl same) behind = (
      subst P (sym same.1) it,
      behind (subst (λ b. AllByRecursion P (if not b then j ∷ rest else rest)) same.0 all),
    )
    by (inr other) behind =
        let both : AllByRecursion P (j ∷ rest) = subst (λ b. AllByRecursion P (if not b then j ∷ rest else rest)) other.0 all in
        (both.0, behind both.1)

-- ---- the entries in places

-- with one place more
picked-next : (es : List (Option Entry)) (places : List ℕ) (i place : ℕ) → slice_get places i ≡ Some place →
    picked es (take (i + 1) places) ≡ picked es (take i places) ++ cons_option (entry_at es place) []
picked-next es places i place there =
    ap (picked es) (take_more places i place (slice_get_within places i place there) ∙
    ap (λ x. take i places ++ x ∷ []) (get_or_from_slice_get places i place place there))
    ∙ filter_map-append (entry_at es) (take i places) (place ∷ [])

module _ (p : Listener ℕ → Bool) (es : List (Option Entry)) where
  module _ (places : List ℕ) (i place : ℕ) (there : slice_get places i ≡ Some place) where
    -- those that pass a test
    kept-split : filter p (listeners_in (picked es (take (i + 1) places))) ≡ filter p (listeners_in (picked es (take i places))) ++
        filter p (listeners_in (cons_option (entry_at es place) []))
    kept-split =
        ap (λ xs. filter p (listeners_in xs)) (picked-next es places i place there)
        ∙ ap (filter p) (map-append listener_of (picked es (take i places)) (cons_option (entry_at es place) []))
        ∙ filter-append p (listeners_in (picked es (take i places))) (listeners_in (cons_option (entry_at es place) []))

    -- are the same, if there is none in that place or the one in it doesn't
    pub kept-same : passes_in p es place ≡ false →
        filter p (listeners_in (picked es (take (i + 1) places))) ≡ filter p (listeners_in (picked es (take i places)))
    kept-same not_it = kept-split ∙ ap (λ ls. filter p (listeners_in (picked es (take i places))) ++ ls) (alone (entry_at es place) not_it) ∙
        append-nil (filter p (listeners_in (picked es (take i places))))
      where
        alone : (o : Option Entry) → passes p o ≡ false → filter p (listeners_in (cons_option o [])) ≡ []
        alone None h = refl
        alone (Some e) h = cond-false (p (listener_of e)) (listener_of e ∷ []) [] h

    -- and that one comes to them, if it passes
    pub kept-next : (e : Entry) → entry_at es place ≡ Some e → p (listener_of e) ≡ true →
        filter p (listeners_in (picked es (take (i + 1) places))) ≡ filter p (listeners_in (picked es (take i places))) ++ listener_of e ∷ []
    kept-next e at it =
        kept-split ∙ ap (λ ls. filter p (listeners_in (picked es (take i places))) ++ ls)
        (ap (λ o. filter p (listeners_in (cons_option o []))) at ∙ cond-true (p (listener_of e)) (listener_of e ∷ []) [] it)

  -- those in two lists of places
  pub kept-append : (xs ys : List ℕ) → filter p (listeners_in (picked es (xs ++ ys))) ≡ filter p (listeners_in (picked es xs)) ++
      filter p (listeners_in (picked es ys))
  kept-append xs ys =
      ap (λ zs. filter p (listeners_in zs)) (filter_map-append (entry_at es) xs ys) ∙ ap (filter p) (map-append listener_of (picked es xs) (picked es ys))
      ∙ filter-append p (listeners_in (picked es xs)) (listeners_in (picked es ys))

  -- whether one of them has such a listener
  found-any : (places : List ℕ) → is_some (find (passes_in p es) places) ≡ list_any p (listeners_in (picked es places))
  found-any [] = refl
  found-any (i ∷ places) = by (entry_at es i) (found-any places)
    where
      first : (b : Bool) → is_some (find (passes_in p es) places) ≡ list_any p (listeners_in (picked es places)) →
          is_some (cond b (Some i) (find (passes_in p es) places)) ≡ (b || list_any p (listeners_in (picked es places)))
      first true rest = refl
      first false rest = rest

      by : (o : Option Entry) → is_some (find (passes_in p es) places) ≡ list_any p (listeners_in (picked es places)) →
          is_some (cond (passes p o) (Some i) (find (passes_in p es) places)) ≡ list_any p (listeners_in (cons_option o (picked es places)))
      by None rest = rest
      by (Some e) rest = first (p (listener_of e)) rest

-- what is found passes
pub found-passes : (q : ℕ → Bool) (xs : List ℕ) → IfSome (find q xs) (λ x. q x ≡ true)
found-passes q [] = tt
found-passes q (x ∷ xs) = by_cases (q x)
    (λ e. subst (λ b. IfSome (cond b (Some x) (find q xs)) (λ y. q y ≡ true)) (sym e) e)
    (λ e. subst (λ b. IfSome (cond b (Some x) (find q xs)) (λ y. q y ≡ true)) (sym e) (found-passes q xs))

-- ---- the places of the listeners that pass a test

module _ (q : Listener ℕ → Bool) where
  -- along two lists
  pub places-append : (n : ℕ) (xs ys : List (Option Entry)) → places_from q n (xs ++ ys) ≡ places_from q n xs ++ places_from q (n + length xs) ys
  places-append n [] ys = ap (λ m. places_from q m ys) (omega arith)
  places-append n (x ∷ xs) ys = by (passes q x) (places-append (n + 1) xs ys ∙ ap (λ m. places_from q (n + 1) xs ++ places_from q m ys) (omega arith))
    where
      by : (b : Bool) → places_from q (n + 1) (xs ++ ys) ≡ places_from q (n + 1) xs ++ places_from q (n + length (x ∷ xs)) ys
          → (if b then n ∷ places_from q (n + 1) (xs ++ ys) else places_from q (n + 1) (xs ++ ys)) ≡
          (if b then n ∷ places_from q (n + 1) xs else places_from q (n + 1) xs) ++ places_from q (n + length (x ∷ xs)) ys
      by true rest = ap (λ ps. n ∷ ps) rest
      by false rest = rest

  -- what is in them, behind some others
  abbrev is_own : Entry → Bool
  is_own e = q (listener_of e)

  moved : (done : List (Option Entry)) (o : Option Entry) (es : List (Option Entry))
      → picked ((done ++ o ∷ []) ++ es) (places_from q (length (done ++ o ∷ [])) es) ≡ picked (done ++ o ∷ es) (places_from q (length done + 1) es)
  moved done o es = λ j. picked (append_assoc done (o ∷ []) es j) (places_from q (length_push done o j) es)

  picked-behind : (done es : List (Option Entry)) → picked (done ++ es) (places_from q (length done) es) ≡ filter is_own (present es)
  picked-behind done [] = refl
  picked-behind done (None ∷ es) = sym (moved done None es) ∙ picked-behind (done ++ None ∷ []) es
  picked-behind done (Some e ∷ es) = by (q (listener_of e)) (sym (moved done (Some e) es) ∙ picked-behind (done ++ Some e ∷ []) es)
    where
      by : (b : Bool) → picked (done ++ Some e ∷ es) (places_from q (length done + 1) es) ≡ filter is_own (present es)
          → picked (done ++ Some e ∷ es) (if b then length done ∷ places_from q (length done + 1) es else places_from q (length done + 1) es) ≡
          (if b then e ∷ filter is_own (present es) else filter is_own (present es))
      by true rest = λ j. cons_option (option_flatten (get-seam done (Some e) es j)) (rest j)
      by false rest = rest

  picked-own : (es : List (Option Entry)) → listeners_in (picked es (places_from q 0 es)) ≡ filter q (listeners_in (present es))
  picked-own es = ap listeners_in (picked-behind [] es) ∙ sym (filter-map q listener_of (present es))

  -- Where just these are among some places, all that pass a narrower test are in those.
  module _ (p : Listener ℕ → Bool) (narrow : (l : Listener ℕ) → p l ≡ true → q l ≡ true) (es : List (Option Entry)) where
    narrowed : (places : List ℕ) → filter p (listeners_in (picked es places)) ≡ filter p (listeners_in (picked es (filter (passes_in q es) places)))
    narrowed [] = refl
    narrowed (i ∷ places) = by (entry_at es i) refl (narrowed places)
      where
        kept : List ℕ
        kept = filter (passes_in q es) places

        -- what stands in the place, and that of the others the same pass
        by : (o : Option Entry) → entry_at es i ≡ o → filter p (listeners_in (picked es places)) ≡ filter p (listeners_in (picked es kept)) →
            filter p (listeners_in (picked es (i ∷ places))) ≡ filter p (listeners_in (picked es (if passes_in q es i then i ∷ kept else kept)))
        by None e rest =
            ap (λ o. filter p (listeners_in (cons_option o (picked es places)))) e ∙ rest
            ∙ sym (ap (λ o. filter p (listeners_in (picked es (if passes q o then i ∷ kept else kept)))) e)
        by (Some x) e rest =
            let l = listener_of x in
            let here : filter p (listeners_in (picked es (i ∷ kept))) ≡ filter p (l ∷ listeners_in (picked es kept)) =
            ap (λ o. filter p (listeners_in (cons_option o (picked es kept)))) e in
            ap (λ o. filter p (listeners_in (cons_option o (picked es places)))) e
            ∙ by_cases (p l)
            (λ yes.
            ap (λ ls. if p l then l ∷ ls else ls) rest ∙ sym here
            ∙ ap (λ c. filter p (listeners_in (picked es (if c then i ∷ kept else kept)))) (sym (narrow l yes)))
            (λ no.
            cond-false (p l) (l ∷ filter p (listeners_in (picked es places))) (filter p (listeners_in (picked es places))) no ∙ rest
            ∙ by_cases (q l)
            (λ yes. sym (here ∙ cond-false (p l) (l ∷ filter p (listeners_in (picked es kept))) (filter p (listeners_in (picked es kept))) no) ∙
            ap (λ c. filter p (listeners_in (picked es (if c then i ∷ kept else kept)))) (sym yes))
            (λ not_it. ap (λ c. filter p (listeners_in (picked es (if c then i ∷ kept else kept)))) (sym not_it)))
            ∙ sym (ap (λ o. filter p (listeners_in (picked es (if passes q o then i ∷ kept else kept)))) e)

    module _ (places : List ℕ) (just : filter (passes_in q es) places ≡ places_from q 0 es) where
      pub listed-kept : filter p (listeners_in (picked es places)) ≡ filter p (listeners_in (present es))
      listed-kept = narrowed places ∙ ap (λ ps. filter p (listeners_in (picked es ps))) just ∙ ap (filter p) (picked-own es) ∙
          filter-wider p q narrow (listeners_in (present es))

      -- whether one passes it
      pub listed-any : is_some (find (passes_in p es) places) ≡ list_any p (listeners_in (present es))
      listed-any =
          found-any p es places ∙ sym (any-filter_same p p true (λ l h. h) (listeners_in (picked es places))) ∙ ap (list_any p) listed-kept
          ∙ any-filter_same p p true (λ l h. h) (listeners_in (present es))

  -- ---- one place less

  -- what is in front of all is none of them
  past : (n : ℕ) (es : List (Option Entry)) (m : ℕ) → m < n → filter (λ j. not (nat_eq j m)) (places_from q n es) ≡ places_from q n es
  past n [] m h = refl
  past n (o ∷ es) m h = by (passes q o) (past (n + 1) es m (omega (arith, h)))
    where
      rest : List ℕ
      rest = places_from q (n + 1) es

      by : (b : Bool) → filter (λ j. not (nat_eq j m)) rest ≡ rest →
          filter (λ j. not (nat_eq j m)) (if b then n ∷ rest else rest) ≡ (if b then n ∷ rest else rest)
      by true same =
          cond-true (not (nat_eq n m)) (n ∷ filter (λ j. not (nat_eq j m)) rest) (filter (λ j. not (nat_eq j m)) rest)
          (ap not (ne_eqb n m (λ e. omega (arith, e, h)))) ∙ ap (λ ps. n ∷ ps) same
      by false same = same

  pub places-less : (n : ℕ) (es : List (Option Entry)) (i m : ℕ) → m ≡ n + i → filter (λ j. not (nat_eq j m)) (places_from q n es) ≡
      places_from q n (slice_set es i None)
  places-less n [] zero m is = refl
  places-less n [] (suc i) m is = refl
  places-less n (o ∷ es) zero m is = by (passes q o)
    where
      rest : List ℕ
      rest = places_from q (n + 1) es

      here : nat_eq n m ≡ true
      here = elim (eqb_tells n m) [ inl same ↦ same.0 | inr other ↦ absurd (other.1 (omega (arith, is))) ]

      by : (b : Bool) → filter (λ j. not (nat_eq j m)) (if b then n ∷ rest else rest) ≡ rest
      by true =
          cond-false (not (nat_eq n m)) (n ∷ filter (λ j. not (nat_eq j m)) rest) (filter (λ j. not (nat_eq j m)) rest) (ap not here)
          ∙ past (n + 1) es m (omega (arith, is))
      by false = past (n + 1) es m (omega (arith, is))
  places-less n (o ∷ es) (suc i) m is = by (passes q o) (places-less (n + 1) es i m (omega (arith, is)))
    where
      rest : List ℕ
      rest = places_from q (n + 1) es

      by : (b : Bool) → filter (λ j. not (nat_eq j m)) rest ≡ places_from q (n + 1) (slice_set es i None) →
          filter (λ j. not (nat_eq j m)) (if b then n ∷ rest else rest) ≡
          (if b then n ∷ places_from q (n + 1) (slice_set es i None) else places_from q (n + 1) (slice_set es i None))
      by true again =
          cond-true (not (nat_eq n m)) (n ∷ filter (λ j. not (nat_eq j m)) rest) (filter (λ j. not (nat_eq j m)) rest)
          (ap not (ne_eqb n m (λ e. omega (arith, e, is)))) ∙ ap (λ ps. n ∷ ps) again
      by false again = again

-- ---- narrower tests

-- what a listener that hears, or one of a type, label and capture, is
pub hears-of : (x : ℕ) (event : Word) (capturing : Bool) (l : Listener ℕ) → hears_at x event capturing l ≡ true → is_of_type x event l ≡ true
hears-of x event capturing l h =
    let parts = and_parts (nat_eq l.node x) (text_eq l.words.event event && beq l.words.capture capturing) h in
    and_from (nat_eq l.node x) (text_eq l.words.event event) parts.0 (and_parts (text_eq l.words.event event) (beq l.words.capture capturing) parts.1).0

pub listens-of : (x : ℕ) (event label : Word) (capture : Bool) (l : Listener ℕ) → is_listener nat_eq x event label capture l ≡ true →
    is_of_type x event l ≡ true
listens-of x event label capture l h =
    let parts = and_parts (nat_eq l.node x) (text_eq l.words.event event && (text_eq l.words.label label && beq l.words.capture capture)) h in
    and_from (nat_eq l.node x) (text_eq l.words.event event) parts.0
    (and_parts (text_eq l.words.event event) (text_eq l.words.label label && beq l.words.capture capture) parts.1).0

-- whether a node has a listener of a type, label and capture, as its places of this type say it
module _ (p : Places) (es : List (Option Entry)) (indexed : IsIndexed p es) (x : ℕ) (list : PlaceList) (at : Some list ≡ slice_get p.rows.items x) where
  pub node-any : (event label : Word) (capture : Bool) → is_some (find (passes_in (is_listener nat_eq x event label capture) es)
      (first_in list ++ rest_in list event)) ≡ list_any (is_listener nat_eq x event label capture) (listeners_in (present es))
  node-any event label capture =
      listed-any (is_of_type x event) (is_listener nat_eq x event label capture) (listens-of x event label capture) es (first_in list ++ rest_in list event)
      (ap (filter (passes_in (is_of_type x event) es)) (ap (λ o. option_map_or (λ ls. places_in ls event) o []) at) ∙ indexed.listed x event)

-- what passes a test in a place passes a wider one
pub wider-passes : (p q : Listener ℕ → Bool) → ((l : Listener ℕ) → p l ≡ true → q l ≡ true) → (es : List (Option Entry)) (i : ℕ) →
    passes_in p es i ≡ true → passes_in q es i ≡ true
wider-passes p q wider es i h = by (entry_at es i) h
  where
    by : (o : Option Entry) → passes p o ≡ true → passes q o ≡ true
    by None h = h
    by (Some e) h = wider (listener_of e) h

-- where none passes a test, all fail it
pub none-pass : (p : Listener ℕ → Bool) (ls : List (Listener ℕ)) → list_any p ls ≡ false → filter (λ l. not (p l)) ls ≡ ls
none-pass p [] h = refl
none-pass p (l ∷ ls) h = by_cases (p l)
    (λ e. let here : true ≡ false = sym (ap (λ b. b || list_any p ls) e) ∙ h in cc)
    (λ e. cond-true (not (p l)) (l ∷ filter (λ x. not (p x)) ls) (filter (λ x. not (p x)) ls) (ap not e) ∙
    ap (λ xs. l ∷ xs) (none-pass p ls (sym (ap (λ b. b || list_any p ls) e) ∙ h)))
