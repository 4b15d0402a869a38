-- What a table shows and keeps when a slot is written, filled or emptied.
use Rattle.dom_ranges.proofs.Cited.{◌≡◌, ◌≢◌, ℕ, Bool, true, false, cond, List, [], ◌∷◌, ◌++◌, length, map, Option, Some, None, IsSome, is_some, refl, sym, ap}
use Rattle.dom_ranges.proofs.Cited.{subst, ◌∙◌, ◌⊎◌, inl, inr, true≢false, slice_get, slice_set, if◌then◌else◌, option_map, option_flatten, cases_Bool}
use Rattle.dom_ranges.proofs.Cited.{cases_eq, map-append, map-set, length-map, same_Some, none-some, slice_get-map, Slab, get, Updates, Owner, owner_eq}
use Rattle.dom_ranges.proofs.Cited.{owner_eq-same, owner_eq-true, owner_eq-false, Range, HasRanges, HaveNumbers, Numbers, Points, range_from, range_in}
use Rattle.dom_ranges.proofs.Cited.{slice_get-push, slice_get-pushed, range_kept, RangeList, RangeLists, lists_of, ranges_of, shown, slots_of, StandsUnder}
use Rattle.dom_ranges.proofs.Cited.{with_ranges}
use Rattle.dom_ranges.proofs.Holding.{ranges_of-shown}
use Rattle.dom_tree.proofs.Changes.{slice_get-push as slice_get-kept}
use Rattle.dom_ranges.proofs.Lists.{map_kept, map_twice, map_set, set_over, set-at, set-absent, set-other}

-- the slots that hold a range are the same
abbrev pub HoldSame : Slab Points → Slab Points → Type 0
HoldSame live after = (s : ℕ) → (IsSome (get after s) → IsSome (get live s)) × (IsSome (get live s) → IsSome (get after s))

-- the lists are the same
abbrev pub SameLists : Numbers → Numbers → Type 0
SameLists n m = (o : Owner) → slots_of m o ≡ slots_of n o

-- what holds stays where slots and lists do
pub HaveNumbers-same : {live : Slab Points} (after : Slab Points) {n : Numbers} (m : Numbers) → HoldSame live after → SameLists n m → HaveNumbers live n →
    HaveNumbers after m
HaveNumbers-same after m hold same h =
    let back = λ (o : Owner) (k slot : ℕ) (e : StandsUnder m slot o k). ap (λ (ss : List (Option ℕ)). slice_get ss k) (sym (same o)) ∙ e in
    record {
      held = λ o k slot e. (hold slot).1 (h.held o k slot (back o k slot e));
      apart = λ o p j k slot e f. h.apart o p j k slot (back o j slot e) (back p k slot f);
      used = λ slot i. let w = h.used slot ((hold slot).0 i) in (w.0, w.1, ap (λ (ss : List (Option ℕ)). slice_get ss w.1) (same w.0) ∙ w.2);
    }

-- a table of these ranges shows what is in the slots of the lists
abbrev pub Shows : Slab Points → Numbers → RangeLists → Type 0
Shows live n v = (o : Owner) → ranges_of v o ≡ map (range_kept live) (slots_of n o)

-- as its view does
pub Shows-view : (live : Slab Points) (n : Numbers) (v : RangeLists) → shown live n ≡ v → Shows live n v
Shows-view live n v e o = ap (λ (t : RangeLists). ranges_of t o) (sym e) ∙ ranges_of-shown live n o

-- slots before and after a change
module _ (live after : Slab Points) where
  -- a slot that was written holds a range as before
  pub HoldSame-written : (slot : ℕ) (q : Points) → Updates live after slot (Some q) → IsSome (get live slot) → HoldSame live after
  HoldSame-written slot q u here s = elim (cases_eq s slot) [
    | inl e ↦ (λ _. subst (λ t. IsSome (get live t)) (sym e) here, λ _. subst (λ t. IsSome (get after t)) (sym e) (ap is_some u.changed))
    | inr off ↦ (subst IsSome (u.others s off), subst IsSome (sym (u.others s off)))
  ]

  -- a slot that is not the one written shows what it did
  shown_other : (slot : ℕ) → ((s : ℕ) → s ≢ slot → get after s ≡ get live s) → (t : Option ℕ) → (t ≡ Some slot → ⊥) → range_kept after t ≡ range_kept live t
  shown_other slot others None off = refl
  shown_other slot others (Some s) off = ap (option_map range_from) (others s (λ e. off (ap Some e)))

  -- where slots hold the same and lists are the same, the same is shown
  pub Shows-same : (n m : Numbers) (v : RangeLists) → Shows live n v → ((s : ℕ) → get after s ≡ get live s) → SameLists n m → Shows after m v
  Shows-same n m v e same lists o =
      e o ∙ (map_kept (range_kept after) (range_kept live) (slots_of n o) (λ j t _. by t) ∙ ap (map (range_kept after)) (sym (lists o)))
    where
      by : (t : Option ℕ) → range_kept live t ≡ range_kept after t
      by None = refl
      by (Some s) = ap (option_map range_from) (sym (same s))

-- what a table that shows them says of its lists
module _ (live : Slab Points) (n : Numbers) (v : RangeLists) (e : Shows live n v) where
  -- what is shown is the table
  pub ranges-shown : (o : Owner) → ranges_of (shown live n) o ≡ ranges_of v o
  ranges-shown o = ranges_of-shown live n o ∙ sym (e o)

  -- as many ranges as slots
  pub length-ranges : (o : Owner) → length (slots_of n o) ≡ length (ranges_of v o)
  length-ranges o = sym (ap (length {A = Option (Range ℕ)}) (e o) ∙ length-map (slots_of n o) (range_kept live))

  -- the range of a number is the one in its slot
  pub range_in-held : (o : Owner) (k : ℕ) → range_in (ranges_of v o) k ≡ range_kept live (option_flatten (slice_get (slots_of n o) k))
  range_in-held o k =
      ap (λ rs. range_in rs k) (e o) ∙ (ap option_flatten (slice_get-map (range_kept live) (slots_of n o) k) ∙ by (slice_get (slots_of n o) k))
    where
      by : (t : Option (Option ℕ)) → option_flatten (option_map (range_kept live) t) ≡ range_kept live (option_flatten t)
      by None = refl
      by (Some t) = refl

  -- a range that is held is the one of its number
  pub range-standing : (slot k : ℕ) (o : Owner) (p : Points) → StandsUnder n slot o k → get live slot ≡ Some p →
      slice_get (ranges_of v o) k ≡ Some (Some (range_from p))
  range-standing slot k o p at here =
      ap (λ (rs : List (Option (Range ℕ))). slice_get rs k) (e o)
      ∙ (slice_get-map (range_kept live) (slots_of n o) k
      ∙ (ap (option_map (range_kept live)) at ∙ ap (λ t. Some (option_map range_from t)) here))

  -- the table after a range was written
  pub ranges-written : {after : Slab Points} {slot : ℕ} (k : ℕ) (owner : Owner) {q : Points} → HaveNumbers live n → StandsUnder n slot owner k →
      Updates live after slot (Some q) → HasRanges owner (slice_set (ranges_of v owner) k (Some (range_from q))) v (shown after n)
  ranges-written {after} {slot} k owner {q} h at u o = ranges_of-shown after n o ∙ by (owner_eq owner o) refl
    where
      by : (b : Bool) → owner_eq owner o ≡ b →
          map (range_kept after) (slots_of n o) ≡ cond b (slice_set (ranges_of v owner) k (Some (range_from q))) (ranges_of v o)
      by true f =
          let same = owner_eq-true owner o f in
          map_set (slots_of n o)
          (λ t i. ap (range_kept after) (same_Some _ _ (sym i ∙ subst (λ (p : Owner). StandsUnder n slot p k) same at)) ∙ ap (option_map range_from) u.changed)
          (λ j t off i. shown_other live after slot u.others t (λ g. off (h.apart o owner j k slot (i ∙ ap Some g) at).1))
          ∙ ap (λ rs. slice_set rs k (Some (range_from q))) (sym (e o) ∙ ap (ranges_of v) (sym same))
      by false f =
          map_kept (range_kept live) (range_kept after) (slots_of n o)
          (λ j t i. shown_other live after slot u.others t (λ g. owner_eq-false owner o f (h.apart owner o k j slot at (i ∙ ap Some g)).0))
          ∙ sym (e o)

-- the slot that a number finds stands under it
pub slot-under : (n : Numbers) (o : Owner) (k slot : ℕ) → Some slot ≡ option_flatten (slice_get (slots_of n o) k) → StandsUnder n slot o k
slot-under n o k slot e = by (slice_get (slots_of n o) k) e
  where
    by : (t : Option (Option ℕ)) → Some slot ≡ option_flatten t → t ≡ Some (Some slot)
    by None f = absurd (none-some slot (sym f))
    by (Some t) f = ap Some (sym f)

-- a slot that holds a range shows one
pub is_some-kept : (t : Option Points) → IsSome t → is_some (option_map range_from t) ≡ true
is_some-kept None i = i
is_some-kept (Some p) i = refl

-- a list of ranges put in the place of itself
pub with_ranges-same : (v : RangeLists) (owner o : Owner) → with_ranges v owner (ranges_of v owner) o ≡ ranges_of v o
with_ranges-same v owner o = by (owner_eq owner o) refl
  where
    by : (b : Bool) → owner_eq owner o ≡ b → cond b (ranges_of v owner) (ranges_of v o) ≡ ranges_of v o
    by true e = ap (ranges_of v) (owner_eq-true owner o e)
    by false e = refl

-- where there is no range, none is put
pub not_there : (v : RangeLists) (owner : Owner) (k : ℕ) → range_in (ranges_of v owner) k ≡ None → (o : Owner) →
    ranges_of v o ≡ with_ranges v owner (slice_set (ranges_of v owner) k None) o
not_there v owner k e o = sym (ap (λ rs. with_ranges v owner rs o) (set-absent (ranges_of v owner) k e) ∙ with_ranges-same v owner o)

-- slots after all ranges were rewritten
module _ (f : Range ℕ → Range ℕ) (live after : Slab Points) where
  -- the lists then
  pub lists-moved : (n : Numbers) (v : RangeLists) → shown live n ≡ v
      → ((s : ℕ) → option_map range_from (get after s) ≡ option_map (λ p. f (range_from p)) (get live s)) →
      shown after n ≡ map (λ (e : Owner × RangeList). (e.0, map (option_map f) e.1)) v
  lists-moved n v same moved =
      let seen : Owner × List (Option ℕ) → Owner × RangeList = λ e. (e.0, map (range_kept live) e.1) in
      let rewritten : Owner × RangeList → Owner × RangeList = λ e. (e.0, map (option_map f) e.1) in
      map_twice seen rewritten (λ e. (e.0, map (range_kept after) e.1)) (lists_of n)
      (λ e. ap {B = Owner × RangeList} (λ rs. (e.0, rs)) (map_twice (range_kept live) (option_map f) (range_kept after) e.1 by))
      ∙ ap (map rewritten) same
    where
      through : (t : Option Points) → option_map (λ p. f (range_from p)) t ≡ option_map f (option_map range_from t)
      through None = refl
      through (Some p) = refl

      by : (t : Option ℕ) → range_kept after t ≡ option_map f (range_kept live t)
      by None = refl
      by (Some s) = moved s ∙ through (get live s)

  -- they hold ranges as before
  pub HoldSame-moved : ((s : ℕ) → option_map range_from (get after s) ≡ option_map (λ p. f (range_from p)) (get live s)) → HoldSame live after
  HoldSame-moved moved s = by (get after s) (get live s) (moved s)
    where
      by : (a b : Option Points) → option_map range_from a ≡ option_map (λ p. f (range_from p)) b → (IsSome a → IsSome b) × (IsSome b → IsSome a)
      by None None e = (λ i. i, λ i. i)
      by None (Some q) e = absurd (none-some _ e)
      by (Some p) None e = absurd (none-some _ (sym e))
      by (Some p) (Some q) e = (λ i. refl, λ i. refl)

-- ---- a slot more

module _ (live after : Slab Points) (n m : Numbers) (slot : ℕ) (owner : Owner) (q : Points) (h : HaveNumbers live n) (free : get live slot ≡ None)
    (u : Updates live after slot (Some q))
    (lists : (o : Owner) → slots_of m o ≡ (if owner_eq owner o then slots_of n o ++ Some slot ∷ [] else slots_of n o)) where
  -- the new slot stood nowhere
  stood_nowhere : (o : Owner) (k : ℕ) → StandsUnder n slot o k → ⊥
  stood_nowhere o k e = true≢false (sym (h.held o k slot e) ∙ ap is_some free)

  -- the owner's list has one more
  list-own : slots_of m owner ≡ slots_of n owner ++ Some slot ∷ []
  list-own = lists owner ∙ ap (λ b. cond b (slots_of n owner ++ Some slot ∷ []) (slots_of n owner)) (owner_eq-same owner)

  -- the others' lists are as they were
  list-other : (o : Owner) → owner_eq owner o ≡ false → slots_of m o ≡ slots_of n o
  list-other o e = lists o ∙ ap (λ b. cond b (slots_of n o ++ Some slot ∷ []) (slots_of n o)) e

  -- what stood under a number stands there still
  under-kept : (o : Owner) (k s : ℕ) → StandsUnder n s o k → StandsUnder m s o k
  under-kept o k s e = elim (cases_Bool (owner_eq owner o)) [
    | inl f ↦
        let same = owner_eq-true owner o f in
        subst (λ (p : Owner). StandsUnder m s p k) same
        (ap (λ (ss : List (Option ℕ)). slice_get ss k) list-own ∙ slice_get-kept (slots_of n owner) (Some slot) (Some s) k
        (subst (λ (p : Owner). StandsUnder n s p k) (sym same) e))
    | inr f ↦ ap (λ (ss : List (Option ℕ)). slice_get ss k) (list-other o f) ∙ e
  ]

  -- under a number stands what stood there, or it is the new one
  under-cases : (o : Owner) (k s : ℕ) → StandsUnder m s o k → StandsUnder n s o k ⊎ ((s ≡ slot) × (o ≡ owner) × (k ≡ length (slots_of n owner)))
  under-cases o k s e = elim (cases_Bool (owner_eq owner o)) [
    | inl f ↦
        let same = owner_eq-true owner o f in
        let here : slice_get (slots_of n owner ++ Some slot ∷ []) k ≡ Some (Some s) =
        ap (λ (ss : List (Option ℕ)). slice_get ss k) (sym list-own) ∙ subst (λ (p : Owner). StandsUnder m s p k) (sym same) e in
        elim (slice_get-push (slots_of n owner) k (Some slot) (Some s) here) [
          | inl g ↦ inr (same_Some _ _ g.1, sym same, g.0)
          | inr g ↦ inl (subst (λ (p : Owner). StandsUnder n s p k) same g)
        ]
    | inr f ↦ inl (ap (λ (ss : List (Option ℕ)). slice_get ss k) (sym (list-other o f)) ∙ e)
  ]

  -- a slot that stood under a number is another one
  other_slot : (o : Owner) (k s : ℕ) → StandsUnder n s o k → s ≢ slot
  other_slot o k s e f = stood_nowhere o k (subst (λ t. StandsUnder n t o k) f e)

  pub HaveNumbers-pushed : HaveNumbers after m
  HaveNumbers-pushed =
      record {
        held = λ o k s e. elim (under-cases o k s e) [
          | inl f ↦ subst IsSome (sym (u.others s (other_slot o k s f))) (h.held o k s f)
          | inr f ↦ subst (λ t. IsSome (get after t)) (sym f.0) (ap is_some u.changed)
        ];
        apart = λ o p j k s e f. elim (under-cases o j s e) [
          | inl a ↦ elim (under-cases p k s f) [ inl b ↦ h.apart o p j k s a b | inr b ↦ absurd (other_slot o j s a b.0) ]
          | inr a ↦ elim (under-cases p k s f) [ inl b ↦ absurd (other_slot p k s b a.0) | inr b ↦ (a.1 ∙ sym b.1, a.2 ∙ sym b.2) ]
        ];
        used = λ s i. elim (cases_eq s slot) [
          | inl e ↦ (
            owner,
            length (slots_of n owner),
            subst (λ t. StandsUnder m t owner (length (slots_of n owner))) (sym e)
                (ap (λ (ss : List (Option ℕ)). slice_get ss (length (slots_of n owner))) list-own ∙ slice_get-pushed (slots_of n owner) (Some slot)),
          )
          | inr off ↦ let w = h.used s (subst IsSome (u.others s off) i) in (w.0, w.1, under-kept w.0 w.1 s w.2)
        ];
      }

  -- the table after a range was added
  pub ranges-pushed : (v : RangeLists) → Shows live n v → (o : Owner) →
      ranges_of (shown after m) o ≡ with_ranges v owner (ranges_of v owner ++ Some (range_from q) ∷ []) o
  ranges-pushed v e o = ranges_of-shown after m o ∙ by (owner_eq owner o) refl
    where
      old : (p : Owner) → map (range_kept after) (slots_of n p) ≡ ranges_of v p
      old p =
          map_kept (range_kept live) (range_kept after) (slots_of n p)
          (λ j t f. shown_other live after slot u.others t (λ g. stood_nowhere p j (f ∙ ap Some g)))
          ∙ sym (e p)

      by : (b : Bool) → owner_eq owner o ≡ b → map (range_kept after) (slots_of m o) ≡ cond b (ranges_of v owner ++ Some (range_from q) ∷ []) (ranges_of v o)
      by true f =
          ap (λ (p : Owner). map (range_kept after) (slots_of m p)) (sym (owner_eq-true owner o f))
          ∙ (ap (map (range_kept after)) list-own
          ∙ (map-append (range_kept after) (slots_of n owner) (Some slot ∷ [])
          ∙ (ap (λ rs. rs ++ range_kept after (Some slot) ∷ []) (old owner) ∙ ap (λ (r : Option (Range ℕ)). ranges_of v owner ++ r ∷ [])
          (ap (option_map range_from) u.changed))))
      by false f = ap (map (range_kept after)) (list-other o f) ∙ old o

-- ---- a slot emptied

module _ (live after : Slab Points) (n m : Numbers) (slot k : ℕ) (owner : Owner) (h : HaveNumbers live n) (at : StandsUnder n slot owner k)
    (u : Updates live after slot None)
    (lists : (o : Owner) → slots_of m o ≡ (if owner_eq owner o then slice_set (slots_of n o) k None else slots_of n o)) where
  -- the owner's list without it
  left-own : slots_of m owner ≡ slice_set (slots_of n owner) k None
  left-own = lists owner ∙ ap (λ b. cond b (slice_set (slots_of n owner) k None) (slots_of n owner)) (owner_eq-same owner)

  -- the others' lists are as they were
  left-other : (o : Owner) → owner_eq owner o ≡ false → slots_of m o ≡ slots_of n o
  left-other o e = lists o ∙ ap (λ b. cond b (slice_set (slots_of n o) k None) (slots_of n o)) e

  -- what stands under a number stood there, and is another slot
  under-left : (o : Owner) (j s : ℕ) → StandsUnder m s o j → StandsUnder n s o j × (s ≢ slot)
  under-left o j s e = elim (cases_Bool (owner_eq owner o)) [
    | inl f ↦
        let same = owner_eq-true owner o f in
        let here : slice_get (slice_set (slots_of n owner) k None) j ≡ Some (Some s) =
        ap (λ (ss : List (Option ℕ)). slice_get ss j) (sym left-own) ∙ subst (λ (p : Owner). StandsUnder m s p j) (sym same) e in
        let off : (j ≡ k → ⊥) = λ g. none-some s
        (sym (set-at (slots_of n owner) k None (Some s)
        (subst (λ i. slice_get (slice_set (slots_of n owner) k None) i ≡ Some (Some s)) g here))) in
        let stood : StandsUnder n s owner j = sym (set-other (slots_of n owner) k None j off) ∙ here in
        (subst (λ (p : Owner). StandsUnder n s p j) same stood, λ g. off (h.apart owner owner j k slot (subst (λ t. StandsUnder n t owner j) g stood) at).1)
    | inr f ↦
        let stood : StandsUnder n s o j = ap (λ (ss : List (Option ℕ)). slice_get ss j) (sym (left-other o f)) ∙ e in
        (stood, λ g. owner_eq-false owner o f (sym (h.apart o owner j k slot (subst (λ t. StandsUnder n t o j) g stood) at).0))
  ]

  -- another slot stands where it stood
  under-stays : (o : Owner) (j s : ℕ) → s ≢ slot → StandsUnder n s o j → StandsUnder m s o j
  under-stays o j s other e = elim (cases_Bool (owner_eq owner o)) [
    | inl f ↦
        let same = owner_eq-true owner o f in
        let stood : StandsUnder n s owner j = subst (λ (p : Owner). StandsUnder n s p j) (sym same) e in
        let off : (j ≡ k → ⊥) = λ g. other (same_Some _ _ (same_Some _ _ (sym (subst (λ i. StandsUnder n s owner i) g stood) ∙ at))) in
        subst (λ (p : Owner). StandsUnder m s p j) same
        (ap (λ (ss : List (Option ℕ)). slice_get ss j) left-own ∙ (set-other (slots_of n owner) k None j off ∙ stood))
    | inr f ↦ ap (λ (ss : List (Option ℕ)). slice_get ss j) (left-other o f) ∙ e
  ]

  pub HaveNumbers-cleared : HaveNumbers after m
  HaveNumbers-cleared =
      record {
        held = λ o j s e. let w = under-left o j s e in subst IsSome (sym (u.others s w.1)) (h.held o j s w.0);
        apart = λ o p i j s e f. h.apart o p i j s (under-left o i s e).0 (under-left p j s f).0;
        used = λ s i.
            let other : s ≢ slot = λ e. true≢false (sym (subst (λ t. IsSome (get after t)) e i) ∙ ap is_some u.changed) in
            let w = h.used s (subst IsSome (u.others s other) i) in (w.0, w.1, under-stays w.0 w.1 s other w.2);
      }

  -- the table after a range was removed
  pub ranges-cleared : (v : RangeLists) → Shows live n v → (o : Owner) →
      ranges_of (shown after m) o ≡ with_ranges v owner (slice_set (ranges_of v owner) k None) o
  ranges-cleared v e o = ranges_of-shown after m o ∙ by (owner_eq owner o) refl
    where
      by : (b : Bool) → owner_eq owner o ≡ b → map (range_kept after) (slots_of m o) ≡ cond b (slice_set (ranges_of v owner) k None) (ranges_of v o)
      by true f =
          ap (λ (p : Owner). map (range_kept after) (slots_of m p)) (sym (owner_eq-true owner o f))
          ∙ (ap (map (range_kept after)) left-own
          ∙ (map-set (range_kept after) (slots_of n owner) k None
          ∙ (set_over (range_kept live) (range_kept after) None (slots_of n owner) k
          (λ j t off g. shown_other live after slot u.others t (λ i. off (h.apart owner owner j k slot (g ∙ ap Some i) at).1))
          ∙ ap (λ rs. slice_set rs k None) (sym (e owner)))))
      by false f =
          ap (map (range_kept after)) (left-other o f)
          ∙ (map_kept (range_kept live) (range_kept after) (slots_of n o)
          (λ j t g. shown_other live after slot u.others t (λ i. owner_eq-false owner o f (sym (h.apart o owner j k slot (g ∙ ap Some i) at).0)))
          ∙ sym (e o))
