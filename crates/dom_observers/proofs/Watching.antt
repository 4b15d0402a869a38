-- What is noted of an owner's registrations: their places, and the nodes from which what is below is observed; what is found in these
-- places, what a walk upwards may leave out, and what it gathers.
use Rattle.dom_base.proofs.Std.{inl, inr, ◌≡◌, ℕ, ◌+◌, ◌<◌, ◌≤◌, Bool, true, false, not, ◌&&◌, ◌||◌, cond, eqb, List, [], ◌∷◌, ◌++◌, length, map, get_or, take}
use Rattle.dom_base.proofs.Std.{Option, Some, None, Bor, refl, sym, ap, ◌∙◌, subst, arith, option_map, slice_get, is_some, if◌then◌else◌, ForSome, list_any}
use Rattle.dom_base.proofs.Std.{filter, cons_option, fold, cond-true, cond-false, cases_eq, or_parts, or_from, eqb-true, false≢true, append_assoc}
use Rattle.dom_base.proofs.Std.{length-append, length-map, length_push, length-take-le, map-append, take_all, take-append-le, take_more, same_Some}
use Rattle.dom_base.proofs.Std.{slice_get-get_or, filter_map-append, list_any-append, any-filter_same, none-some, fold-append}
use Rattle.dom_model.proofs.Model.{is_in, parent_of, Change, Registration, asks_for, asks_for_old, fits, transients_for, target_of, is_asked_for, is_transient}
use Rattle.dom_tree.specs.Definitions.{NamedTrees, name_at, TellApart}
use Rattle.dom_laws.proofs.Laws.{was_some}
use Rattle.dom_tree.proofs.Standing.{StandOnce, StandAlone}
use Rattle.dom_observers.specs.declared.marks.Marks.{Marks}
use Rattle.dom_observers.specs.declared.marks.Marks.TheVariants.{Empty}
use Rattle.dom_observers.specs.declared.places.Places.{Places}
use Rattle.dom_observers.specs.declared.registered.Registered.{Registered}
use Rattle.dom_observers.specs.declared.removal.Removal.{Removal}
use Rattle.dom_observers.specs.declared.watched.Watched.{Watched}
use Rattle.dom_observers.specs.Definitions.{registration_of, unless_gone, those_there, there_in, goes, IsKey, keys_from, transient_copy, picked, none_found}
use Rattle.dom_observers.specs.Definitions.{and_found, found_by, found_at, copied_by, copied_at, places_in, places_or, places_at, places_from, is_marked}
use Rattle.dom_observers.specs.Definitions.{IsNearest, is_above, among, AreThinned, AreNoted, IsPlaceOf}
use Rattle.dom_observers.proofs.Ascending.{climbs}
use Rattle.dom_observers.proofs.Folds.{filter-filter, eqb-turned}
use Rattle.dom_observers.proofs.Gathering.{fold-passing, fold-lacking, walk-copies}
use Rattle.dom_observers.proofs.Leaving.{there-got, there-raw, there-within, there-append, any-there}
use Rattle.dom_observers.proofs.Thinning.{thinned-again, thinned-behind, thinned-left, thinned-stays, picked-thinned, places-within, places-more}

-- ---- the places of a node's registrations

-- what stands behind others
get-seam : {X : Type 0} (xs : List X) (y : X) (ys : List X) → slice_get (xs ++ y ∷ ys) (length xs) ≡ Some y
get-seam [] y ys = refl
get-seam (x ∷ xs) y ys = get-seam xs y ys

-- The registrations in the places of a node are those on the node, in their order.
module _ (x : ℕ) where
  -- the places behind some others, with one of these less
  moved : (done : List Registered) (r : Registered) (rs : List Registered)
      → picked ((done ++ r ∷ []) ++ rs) (places_from x (length (done ++ r ∷ [])) (map registration_of rs))
      ≡ picked (done ++ r ∷ rs) (places_from x (length done + 1) (map registration_of rs))
  moved done r rs = λ j. picked (append_assoc done (r ∷ []) rs j) (places_from x (length_push done r j) (map registration_of rs))

  abbrev on : Registration ℕ → Bool
  on t = eqb t.node x

  picked-behind : (done rs : List Registered)
      → picked (done ++ rs) (places_from x (length done) (map registration_of rs)) ≡ filter (λ t. eqb t.node x) (those_there rs)
  picked-behind done [] = refl
  picked-behind done (r ∷ rs) = by (eqb r.node x) r.has_gone refl refl (sym (moved done r rs) ∙ picked-behind (done ++ r ∷ []) rs)
    where
      places : List ℕ
      places = places_from x (length done + 1) (map registration_of rs)

      got : (o : Option (Registration ℕ)) → unless_gone r ≡ o → there_in (done ++ r ∷ rs) (length done) ≡ o
      got o e = there-got (done ++ r ∷ rs) (length done) r (get-seam done r rs) ∙ e

      by : (here gone : Bool) → eqb r.node x ≡ here → unless_gone r ≡ cond gone None (Some (registration_of r))
          → picked (done ++ r ∷ rs) places ≡ filter on (those_there rs)
          → picked (done ++ r ∷ rs) (cond here (length done ∷ places) places)
          ≡ filter on (cons_option (cond gone None (Some (registration_of r))) (those_there rs))
      by true true e g rest = λ j. cons_option (got None g j) (rest j)
      by true false e g rest =
          (λ j. cons_option (got (Some (registration_of r)) g j) (rest j))
          ∙ sym (cond-true (eqb r.node x) (registration_of r ∷ filter on (those_there rs)) (filter on (those_there rs)) e)
      by false true e g rest = rest
      by false false e g rest =
          rest ∙ sym (cond-false (eqb r.node x) (registration_of r ∷ filter on (those_there rs)) (filter on (those_there rs)) e)

-- what is found in a place
pub read : (rs : List Registered) (i : ℕ) {r : Option (Bor Registered)} (o : Option (Bor Registered)) → r ≡ o
    → option_map (λ b. registration_of b.now) r ≡ there_in rs i → there_in rs i ≡ option_map (λ b. registration_of b.now) o
read rs i o e is = sym is ∙ ap (option_map (λ b. registration_of b.now)) e

-- One place more of some places in a list.
module _ (rs : List Registered) (places : List ℕ) (i : ℕ) (short : i < length places) where
  -- what a walk over places has found after it
  pub picked-next : {B : Type 0} (f : B → Registration ℕ → B) (b : B)
      → fold f b (picked rs (take (i + 1) places)) ≡ fold f (fold f b (picked rs (take i places))) (cons_option (there_in rs (get_or places i 0)) [])
  picked-next f b =
      ap (λ ps. fold f b (picked rs ps)) (take_more places i 0 short)
      ∙ (ap (fold f b) (filter_map-append (there_in rs) (take i places) (get_or places i 0 ∷ []))
      ∙ fold-append f b (picked rs (take i places)) (cons_option (there_in rs (get_or places i 0)) []))

  -- where none of those before has what passes a test, and it has not
  pub none-next : (p : Registration ℕ → Bool) {o : Option (Registration ℕ)} → there_in rs (get_or places i 0) ≡ o →
      list_any p (picked rs (take i places)) ≡ false → list_any p (cons_option o []) ≡ false
      → list_any p (picked rs (take (i + 1) places)) ≡ false
  none-next p at none off =
      ap (λ ps. list_any p (picked rs ps)) (take_more places i 0 short)
      ∙ (ap (list_any p) (filter_map-append (there_in rs) (take i places) (get_or places i 0 ∷ []))
      ∙ (list_any-append p (picked rs (take i places)) (cons_option (there_in rs (get_or places i 0)) [])
      ∙ or_from (list_any p (picked rs (take i places))) (list_any p (cons_option (there_in rs (get_or places i 0)) [])) none
      (ap (λ q. list_any p (cons_option q [])) at ∙ off)))

-- ---- where nothing passes a test

-- a test that nothing passes keeps nothing
nothing_passes : {X : Type 0} (p : X → Bool) (xs : List X) → list_any p xs ≡ false → filter p xs ≡ []
nothing_passes p [] e = refl
nothing_passes p (x ∷ xs) e =
    let parts = or_parts (p x) (list_any p xs) e in
    cond-false (p x) (x ∷ filter p xs) (filter p xs) parts.0 ∙ nothing_passes p xs parts.1

-- none on a node that is not the target fits a change, if none on it observes what is below
nothing_fits : (c : Change ℕ) (x : ℕ) (rs : List (Registration ℕ)) → eqb x (target_of c) ≡ false → list_any (is_above x) rs ≡ false
    → list_any (λ r. eqb r.node x && fits eqb c r) rs ≡ false
nothing_fits c x [] other past = refl
nothing_fits c x (r ∷ rs) other past =
    let below = or_parts (is_above x r) (list_any (is_above x) rs) past in
    or_from (eqb r.node x && fits eqb c r) (list_any (λ s. eqb s.node x && fits eqb c s) rs)
    (by (eqb r.node x) refl (asks_for r.options c) r.options.subtree below.0) (nothing_fits c x rs other below.1)
  where
    by : (on : Bool) → eqb r.node x ≡ on → (asks below : Bool) → (on && below) ≡ false → (on && (asks && (eqb r.node (target_of c) || below))) ≡ false
    by true e true below g = or_from (eqb r.node (target_of c)) below (ap (λ y. eqb y (target_of c)) (eqb-true r.node x e) ∙ other) g
    by true e false below g = refl
    by false e asks below g = refl

-- ---- the lists of places

-- What was written of one node's places: what is read of it then is a change of what was read before, and of other nodes all is as it was.
pub record IsListChange (change : List ℕ → List ℕ) (node : ℕ) (was now : ℕ → Option Places) : Type 0 where
  pub written : Places
  pub updated : (x : ℕ) → now x ≡ cond (eqb node x) (Some written) (was x)
  pub changed : places_in written ≡ change (places_or (was node))

-- the lists after that of one node was changed
pub list-changed : {change : List ℕ → List ℕ} {node : ℕ} {was now : ℕ → Option Places} → IsListChange change node was now → (x : ℕ)
    → places_or (now x) ≡ cond (eqb node x) (change (places_or (was x))) (places_or (was x))
list-changed {change = change} {node = node} {was = was} w x = ap places_or (w.updated x) ∙ by (eqb node x) refl
  where
    by : (b : Bool) → eqb node x ≡ b → places_or (cond b (Some w.written) (was x)) ≡ cond b (change (places_or (was x))) (places_or (was x))
    by true e = w.changed ∙ ap (λ y. change (places_or (was y))) (eqb-true node x e)
    by false e = refl

-- ---- what is noted

-- the second of three tests that all hold
pub second : (a b c : Bool) → (a && (b && c)) ≡ true → b ≡ true
second true true c e = refl
second true false c e = e
second false b c e = absurd (false≢true e)

-- What one more noted registration changes.
pub record NotesNext (w v : Watched) (r : Registration ℕ) : Type 0 where
  pub places : (x : ℕ) → places_at v x ≡ (if eqb r.node x then places_at w x ++ w.noted ∷ [] else places_at w x)
  pub above : (x : ℕ) → is_marked v.above x ≡ cond (r.options.subtree && eqb r.node x) true (is_marked w.above x)
  pub noted : v.noted ≡ w.noted + 1
  pub stay : (removal : Removal) (i : ℕ) → is_in eqb i (among w.owned removal) ≡ true → is_in eqb i (among v.owned removal) ≡ true
  pub found : (removal : Removal) → goes removal r ≡ true → is_in eqb w.noted (among v.owned removal) ≡ true

module _ {w : Watched} {rs : List Registered} (noted : AreNoted w rs) where
  abbrev raw : List (Registration ℕ)
  raw = map registration_of rs

  -- one registration more is noted
  module _ {v : Watched} (r : Registration ℕ) (short : w.noted < length rs) (there : get_or raw w.noted r ≡ r) (next : NotesNext w v r) where
    short_raw : w.noted < length raw
    short_raw = let same = length-map rs registration_of in omega (arith, same, short)

    one_more : take v.noted raw ≡ take w.noted raw ++ r ∷ []
    one_more = ap (λ n. take n raw) next.noted ∙ (take_more raw w.noted r short_raw ∙ ap (λ s. take w.noted raw ++ s ∷ []) there)

    -- a node that is not marked now was not so before, nor does the registration observe what is below it
    off_above : (x : ℕ) → is_marked v.above x ≡ false → (is_marked w.above x ≡ false) × (is_above x r ≡ false)
    off_above x off = by r.options.subtree (eqb r.node x) (sym (next.above x) ∙ off)
      where
        by : (below on : Bool) → cond (below && on) true (is_marked w.above x) ≡ false → (is_marked w.above x ≡ false) × ((on && below) ≡ false)
        by true true h = absurd (false≢true (sym h))
        by false true h = (h, refl)
        by below on h = (h, refl)

    -- what stands in the place
    is_next : (i : ℕ) (t : Registration ℕ) → i ≡ w.noted → there_in rs i ≡ Some t → t ≡ r
    is_next i t same e =
        same_Some t r (sym (there-raw rs i t e) ∙ (ap (slice_get raw) same ∙ (slice_get-get_or raw w.noted r short_raw ∙ ap Some there)))

    -- the places of a node's registrations with its
    places_next : (x : ℕ)
        → places_from x 0 (take v.noted raw)
        ≡ (if eqb r.node x then places_from x 0 (take w.noted raw) ++ w.noted ∷ [] else places_from x 0 (take w.noted raw))
    places_next x =
        ap (places_from x 0) one_more ∙ (places-more x 0 (take w.noted raw) r
        ∙ ap (λ n. cond (eqb r.node x) (places_from x 0 (take w.noted raw) ++ n ∷ []) (places_from x 0 (take w.noted raw)))
        (let long = length-take-le w.noted raw (omega (arith, short_raw)) in omega (arith, long)))

    -- and those that are noted
    thinned_next : (x : ℕ) (b : Bool)
        → AreThinned rs (cond b (places_from x 0 (take w.noted raw) ++ w.noted ∷ []) (places_from x 0 (take w.noted raw)))
        (cond b (places_at w x ++ w.noted ∷ []) (places_at w x))
    thinned_next x true = thinned-behind (noted.places x) (w.noted ∷ [])
    thinned_next x false = noted.places x

    pub noted-next : AreNoted v rs
    noted-next = record {
      within = omega (arith, next.noted, short);
      places = λ x. subst (AreThinned rs (places_from x 0 (take v.noted raw))) (sym (next.places x))
          (subst (λ ps. AreThinned rs ps (cond (eqb r.node x) (places_at w x ++ w.noted ∷ []) (places_at w x))) (sym (places_next x))
          (thinned_next x (eqb r.node x)));
      above = λ x off.
          let parts = off_above x off in
          ap (list_any (is_above x)) one_more
          ∙ (list_any-append (is_above x) (take w.noted raw) (r ∷ [])
          ∙ or_from (list_any (is_above x) (take w.noted raw)) (is_above x r || false) (noted.above x parts.0)
          (or_from (is_above x r) false parts.1 refl));
      found = λ removal i t below e is. elim (cases_eq i w.noted) [
        | inl same ↦ subst (λ j. is_in eqb j (among v.owned removal) ≡ true) (sym same)
            (next.found removal (subst (λ s. goes removal s ≡ true) (is_next i t same e) is))
        | inr other ↦ next.stay removal i (noted.found removal i t (omega (arith, below, next.noted, other)) e is)
      ];
    }

  -- the places of a node's registrations are places of the list
  inside : (x i : ℕ) → is_in eqb i (places_from x 0 (take w.noted raw)) ≡ true → i < length rs
  inside x i in_it =
      let short = places-within x 0 (take w.noted raw) i in_it in
      let same = length-map rs registration_of in
      let long = length-take-le w.noted raw (omega (arith, same, noted.within)) in
      omega (arith, short, long, noted.within)

  -- others stand behind
  pub noted-append : (more : List Registered) → AreNoted w (rs ++ more)
  noted-append more =
      let same = length-map rs registration_of in
      let front : take w.noted (map registration_of (rs ++ more)) ≡ take w.noted raw =
      ap (take w.noted) (map-append registration_of rs more)
      ∙ take-append-le w.noted raw (map registration_of more) (omega (arith, same, noted.within)) in
      record {
        within = let long = length-append rs more in omega (arith, long, noted.within);
        places = λ x. subst (λ ts. AreThinned (rs ++ more) (places_from x 0 ts) (places_at w x)) (sym front)
            (thinned-left (noted.places x) (λ i in_it is. ap is_some (sym (there-append rs more i (inside x i in_it))) ∙ is));
        above = λ x off. ap (list_any (is_above x)) front ∙ noted.above x off;
        found = λ removal i t below e is. noted.found removal i t below (sym (there-append rs more i (omega (arith, below, noted.within))) ∙ e) is;
      }

  -- some have gone
  pub noted-left : (ss : List Registered) → map registration_of ss ≡ raw
      → ((i : ℕ) (t : Registration ℕ) → there_in ss i ≡ Some t → there_in rs i ≡ Some t) → AreNoted w ss
  noted-left ss same fewer = record {
    within =
        let long = length-map rs registration_of in
        let short = length-map ss registration_of in
        let even = ap (length {A = Registration ℕ}) same in
        omega (arith, noted.within, long, short, even);
    places = λ x. subst (λ ts. AreThinned ss (places_from x 0 (take w.noted ts)) (places_at w x)) (sym same)
        (thinned-left (noted.places x) (λ i in_it is. let t = was_some (there_in ss i) is in ap is_some (fewer i t.0 t.1)));
    above = λ x off. ap (λ ts. list_any (is_above x) (take w.noted ts)) same ∙ noted.above x off;
    found = λ removal i t below e is. noted.found removal i t below (fewer i t e) is;
  }

  -- places of some that have gone were dropped
  pub noted-thinned : {v : Watched} → ((x : ℕ) → AreThinned rs (places_at w x) (places_at v x))
      → ((removal : Removal) → AreThinned rs (among w.owned removal) (among v.owned removal)) → v.above ≡ w.above → v.noted ≡ w.noted → AreNoted v rs
  noted-thinned {v = v} places owned above same = record {
    within = omega (arith, same, noted.within);
    places = λ x. thinned-again (subst (λ n. AreThinned rs (places_from x 0 (take n raw)) (places_at w x)) (sym same) (noted.places x)) (places x);
    above = λ x off.
        ap (λ n. list_any (is_above x) (take n raw)) same ∙ noted.above x (ap (λ m. is_marked m x) (sym above) ∙ off);
    found = λ removal i t below e is.
        thinned-stays (owned removal) i (noted.found removal i t (omega (arith, below, same)) e is) (ap is_some e);
  }

  -- ---- where all are noted
  module _ (all : length rs ≤ w.noted) where
    whole : take w.noted raw ≡ raw
    whole = take_all w.noted raw (let same = length-map rs registration_of in omega (arith, same, all))

    -- those found by a node's places are those on the node
    pub picked-on : (x : ℕ) → picked rs (places_at w x) ≡ filter (λ r. eqb r.node x) (those_there rs)
    picked-on x = picked-thinned (noted.places x) ∙ (ap (λ ts. picked rs (places_from x 0 ts)) whole ∙ picked-behind x [] rs)

    -- all that go are found
    pub found-all : (removal : Removal) (i : ℕ) (t : Registration ℕ) → there_in rs i ≡ Some t → goes removal t ≡ true →
        is_in eqb i (among w.owned removal) ≡ true
    found-all removal i t e is = noted.found removal i t (let short = there-within rs i t e in omega (arith, short, all)) e is

    -- one that is not marked has none that observes what is below it
    off_below : (x : ℕ) → is_marked w.above x ≡ false → list_any (is_above x) (those_there rs) ≡ false
    off_below x off = any-there (is_above x) rs (ap (list_any (is_above x)) (sym whole) ∙ noted.above x off)

    -- the one that an observer asked for on a node is found among those on the node
    pub placed : (k x : ℕ) {places : List ℕ} → places ≡ places_at w x → (o : Option ℕ) → IsPlaceOf (is_asked_for eqb k x) rs (picked rs places) o
        → IsPlaceOf (is_asked_for eqb k x) rs (those_there rs) o
    placed k x at (Some i) is = is
    placed k x at None is =
        let p = is_asked_for eqb k x in
        sym (any-filter_same p (λ (r : Registration ℕ). eqb r.node x) true
        (λ r e. second (eqb r.observer k) (eqb r.node x) (not (is_transient r.source)) e) (those_there rs))
        ∙ (ap (list_any p) (sym (picked-on x)) ∙ (ap (λ ps. list_any p (picked rs ps)) (sym at) ∙ is))

    -- nothing comes from those on a node where none passes a test without which nothing comes
    adds_none : {B : Type 0} (f : B → Registration ℕ → B) (p : Registration ℕ → Bool) → ((b : B) (r : Registration ℕ) → p r ≡ false → f b r ≡ b)
        → (x : ℕ) → list_any (λ r. eqb r.node x && p r) (those_there rs) ≡ false → (b : B) → fold f b (picked rs (places_at w x)) ≡ b
    adds_none f p stays x none b =
        ap (fold f b) (picked-on x)
        ∙ (fold-passing f f p (λ c r e. refl) stays b (filter (λ r. eqb r.node x) (those_there rs))
        ∙ ap (fold f b) (filter-filter p (λ r. eqb r.node x) (those_there rs) ∙ nothing_passes (λ r. eqb r.node x && p r) (those_there rs) none))

    module _ {slice : List Registered} (list : slice ≡ rs) where
      -- what is found on the nodes that are looked at is what is found on the whole path
      pub found-on : (c : Change ℕ) (path : List ℕ) → is_in eqb (target_of c) path ≡ false
          → fold (found_at slice w c) none_found (target_of c ∷ filter (is_marked w.above) path)
          ≡ fold (λ f x. fold (found_by c) f (picked rs (places_at w x))) none_found (target_of c ∷ path)
      found-on c path apart =
          ap (λ xs. fold (found_at xs w c) none_found (target_of c ∷ filter (is_marked w.above) path)) list
          ∙ sym (fold-lacking (found_at rs w c) (is_marked w.above) (target_of c)
          (λ f x other off. adds_none (found_by c) (fits eqb c)
          (λ g r h. cond-false (fits eqb c r) (and_found g r.observer (asks_for_old r.options c)) g h) x
          (nothing_fits c x (those_there rs) (eqb-turned x (target_of c) ∙ other) (off_below x off)) f) (found_at rs w c none_found (target_of c)) path apart)

      -- the copies of those on a path
      pub copied : (node : ℕ) (path : List ℕ)
          → fold (copied_at node slice w) [] (filter (is_marked w.above) path) ≡ transients_for eqb node path (those_there rs)
      copied node path =
          ap (λ xs. fold (copied_at node xs w) [] (filter (is_marked w.above) path)) list
          ∙ (sym (fold-passing (copied_at node rs w) (copied_at node rs w) (is_marked w.above) (λ copies x e. refl)
          (λ copies x off. adds_none (copied_by node) (λ r. r.options.subtree)
          (λ g r h. cond-false r.options.subtree (g ++ transient_copy node r ∷ []) g h) x (off_below x off) copies) [] path)
          ∙ walk-copies (those_there rs) (λ x. picked rs (places_at w x)) picked-on node path)

-- ---- a list that is read as a slice

-- what is noted of the list
pub noted-now : {w v : Watched} {slice items : List Registered} → slice ≡ items → (AreNoted w slice → AreNoted v slice) → AreNoted w items → AreNoted v items
noted-now {w = w} {v = v} is notes noted = subst (AreNoted v) is (notes (subst (AreNoted w) (sym is) noted))

-- all are noted
pub all-now : {slice items : List Registered} {n : ℕ} → slice ≡ items → length slice ≤ n → length items ≤ n
all-now {n = n} is short = subst (λ (xs : List Registered). length xs ≤ n) is short

-- ---- the walk upwards

-- there is none where none is marked
pub none_near : {f : NamedTrees} {m : Marks} {from : Option ℕ} → filter (is_marked m) (keys_from f from) ≡ [] → IsNearest f m from None
none_near none = record { node = λ k e. absurd (none-some k e); marked = λ k e. absurd (none-some k e); others = none }

-- no node is
pub none_marked : (xs : List ℕ) → filter (is_marked Empty) xs ≡ []
none_marked [] = refl
none_marked (x ∷ xs) = none_marked xs

-- what it has done: what it has gathered, and from a marked node or none on what is marked, makes all
pub record HasGathered {B : Type 0} (f : NamedTrees) (m : Marks) (step : B → ℕ → B) (all now : B) (at : Option ℕ) : Type 0 where
  pub node : ForSome at (IsKey f.names)
  pub marked : ForSome at (λ k. is_marked m k ≡ true)
  pub whole : fold step now (filter (is_marked m) (keys_from f at)) ≡ all

module _ {B : Type 0} {f : NamedTrees} {m : Marks} (step : B → ℕ → B) where
  -- the beginning
  pub gathers-first : {now all : B} {from at : Option ℕ} → IsNearest f m from at → fold step now (filter (is_marked m) (keys_from f from)) ≡ all
      → HasGathered f m step all now at
  gathers-first {now = now} near whole = record { node = near.node; marked = near.marked; whole = ap (fold step now) (sym near.others) ∙ whole }

  -- the end
  pub gathers-all : {now all : B} {at : Option ℕ} → HasGathered f m step all now at → at ≡ None → now ≡ all
  gathers-all {now = now} done here = ap (λ o. fold step now (filter (is_marked m) (keys_from f o))) (sym here) ∙ done.whole

  -- A step, in a forest in which each node stands once, by a name of its own.
  module _ (once : StandOnce f) (only : StandAlone f) (apart : TellApart f.names) {all now : B} {k : ℕ} {at from next : Option ℕ}
      (done : HasGathered f m step all now at) (here : at ≡ Some k) (is : option_map (name_at f.names) from ≡ parent_of f.trees (name_at f.names k))
      (near : IsNearest f m from next) where
    -- from the node on it is marked, and then what is from the next one on
    pub one_ahead : filter (is_marked m) (keys_from f at) ≡ k ∷ filter (is_marked m) (keys_from f next)
    one_ahead =
        ap (λ o. filter (is_marked m) (keys_from f o)) here
        ∙ (ap (filter (is_marked m)) (climbs f once only apart k from (done.node k here) is)
        ∙ (cond-true (is_marked m k) (k ∷ filter (is_marked m) (keys_from f from)) (filter (is_marked m) (keys_from f from)) (done.marked k here)
        ∙ ap (λ ks. k ∷ ks) near.others))

    pub gathers-more : {later : B} → later ≡ step now k → HasGathered f m step all later next
    gathers-more {later = later} adds = record {
      node = near.node;
      marked = near.marked;
      whole = ap (λ b. fold step b (filter (is_marked m) (keys_from f next))) adds ∙ (ap (fold step now) (sym one_ahead) ∙ done.whole);
    }

    pub gathers-fewer : length (filter (is_marked m) (keys_from f next)) < length (filter (is_marked m) (keys_from f at))
    gathers-fewer = let longer = ap (length {A = ℕ}) one_ahead in omega (arith, longer)
