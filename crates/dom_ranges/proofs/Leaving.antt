-- The ends of all ranges as a rule moves them: in two steps, or not at all.
use Rattle.dom_ranges.proofs.Cited.{◌≡◌, inl, inr, ℕ, suc, ◌+◌, ◌-◌, ◌<◌, Bool, true, false, cond, List, [], ◌∷◌, length, get_or, Option, Some, None, is_some}
use Rattle.dom_ranges.proofs.Cited.{eqb, nat_lt, refl, sym, ap, ◌∙◌, subst, arith, slice_get, ◌&&◌, option_map, ForSome, eqb-true, ltb-true, false_from_ne_true}
use Rattle.dom_ranges.proofs.Cited.{slice_get-map, Slab, get, Owner, Boundary, at, map_ends, after_insert, after_removal, after_join, after_closing}
use Rattle.dom_ranges.proofs.Cited.{after_leaving, BothEnds, EachRange, end_in, end_of, ends_by, HaveNumbers, IsListed, IsNear, IsSortedByPoint, IsUpTo}
use Rattle.dom_ranges.proofs.Cited.{Numbers, point_of, Points, range_from, range_kept, RangeEnd, RangeList, RangeLists, ranges_of, slots_of}
use Rattle.dom_ranges.proofs.Lists.{cons_same}
use Rattle.dom_ranges.proofs.Listing.{listed-once}
use Rattle.dom_ranges.proofs.Moved.{both_same}
use Rattle.dom_ranges.proofs.Writing.{Shows, range-standing, HaveNumbers-same, HoldSame-moved}

-- a rule moves the ends of all ranges
abbrev pub Moves : (Boundary ℕ → Boundary ℕ) → Slab Points → Slab Points → Type 0
Moves rule live after = (slot : ℕ) → option_map range_from (get after slot) ≡ option_map (λ p. map_ends rule (range_from p)) (get live slot)

-- what holds of the ends of all ranges
abbrev pub OfEach : (Boundary ℕ → Type 0) → Slab Points → Type 0
OfEach P live = (slot : ℕ) → ForSome (get live slot) (λ p. BothEnds P (range_from p))

-- ---- rules that do the same

-- a rule that moves none
pub moves-none : (g : Boundary ℕ → Boundary ℕ) (live : Slab Points) → OfEach (λ b. g b ≡ b) live → Moves g live live
moves-none g live same slot = by (get live slot) refl
  where
    by : (t : Option Points) → get live slot ≡ t → option_map range_from t ≡ option_map (λ p. map_ends g (range_from p)) t
    by None e = refl
    by (Some p) e =
        let h = same slot p e in
        let r = range_from p in
        ap Some (both_same r.start r.end (g r.start) (g r.end) (sym h.0) (sym h.1))

-- two rules
module _ (f g : Boundary ℕ → Boundary ℕ) (live : Slab Points) where
  -- another rule that does the same to each end
  pub moves-alike : (after : Slab Points) → Moves f live after → OfEach (λ b. g b ≡ f b) live → Moves g live after
  moves-alike after moved same slot = moved slot ∙ by (get live slot) refl
    where
      by : (t : Option Points) → get live slot ≡ t → option_map (λ p. map_ends f (range_from p)) t ≡ option_map (λ p. map_ends g (range_from p)) t
      by None e = refl
      by (Some p) e =
          let h = same slot p e in
          let r = range_from p in
          ap Some (both_same (f r.start) (f r.end) (g r.start) (g r.end) (sym h.0) (sym h.1))

  -- a rule that does what the first of them does and then what the second one does
  pub moves-twice : (h : Boundary ℕ → Boundary ℕ) (mid after : Slab Points) → Moves f live mid → Moves g mid after →
      ((b : Boundary ℕ) → h b ≡ g (f b)) → Moves h live after
  moves-twice h mid after first second both slot =
      second slot ∙ (through (get mid slot) ∙ (ap (option_map (map_ends g)) (first slot) ∙ whole (get live slot)))
    where
      through : (t : Option Points) → option_map (λ p. map_ends g (range_from p)) t ≡ option_map (map_ends g) (option_map range_from t)
      through None = refl
      through (Some p) = refl

      whole : (t : Option Points) → option_map (map_ends g) (option_map (λ p. map_ends f (range_from p)) t) ≡ option_map (λ p. map_ends h (range_from p)) t
      whole None = refl
      whole (Some p) =
          let r = range_from p in
          ap Some (both_same (g (f r.start)) (g (f r.end)) (h r.start) (h r.end) (sym (both r.start)) (sym (both r.end)))

-- ---- what holds of each end

-- by the list of ends
pub each-listed : (P : Boundary ℕ → Type 0) (live : Slab Points) (es : List RangeEnd) → IsListed live es
    → ((k : ℕ) (d : RangeEnd) → k < length es → P (point_of (get_or es k d))) → OfEach P live
each-listed P live es listed holds slot p there = (one false, one true)
  where
    one : (e : Bool) → P (end_of e p)
    one e =
        let w = listed-once listed slot e there in
        let d = end_in 0 false (at 0 0) in
        subst P (ap (λ (x : RangeEnd). point_of x) (w.there d)) (holds w.place d w.within)

module _ (P : Boundary ℕ → Type 0) (live : Slab Points) (n : Numbers) (v : RangeLists) (shows : Shows live n v) where
  -- of the ranges that are held, where it holds of those that are shown
  pub each-held : HaveNumbers live n → ((o : Owner) → EachRange (BothEnds P) (ranges_of v o)) → OfEach P live
  each-held held each slot p e =
      let w = held.used slot (ap is_some e) in
      each w.0 w.1 (range_from p) (range-standing live n v shows slot w.1 w.0 p w.2 e)

  -- and the other way round
  pub each-shown : OfEach P live → (o : Owner) → EachRange (BothEnds P) (ranges_of v o)
  each-shown each o k r e = by (slice_get (slots_of n o) k)
      (sym (slice_get-map (range_kept live) (slots_of n o) k) ∙ (ap (λ (rs : RangeList). slice_get rs k) (sym (shows o)) ∙ e))
    where
      held : (slot : ℕ) (t : Option Points) → get live slot ≡ t → Some (option_map range_from t) ≡ Some (Some r) → BothEnds P r
      held slot None f g = cc
      held slot (Some p) f g = let same : range_from p ≡ r = cc in subst (BothEnds P) same (each slot p f)

      by : (t : Option (Option ℕ)) → option_map (range_kept live) t ≡ Some (Some r) → BothEnds P r
      by None f = cc
      by (Some None) f = cc
      by (Some (Some slot)) f = held slot (get live slot) refl f

  -- and of the list of ends
  pub each-seen : (es seen : List RangeEnd) → IsListed live es → seen ≡ es → ((k : ℕ) (d : RangeEnd) → k < length seen → P (point_of (get_or seen k d))) →
      (o : Owner) → EachRange (BothEnds P) (ranges_of v o)
  each-seen es seen listed same holds = each-shown (each-listed P live es listed
      (subst (λ (xs : List RangeEnd). (k : ℕ) (d : RangeEnd) → k < length xs → P (point_of (get_or xs k d))) same holds))

-- ---- rules that move no end up to an offset

-- the test of an end in a node at an offset behind this one
past_none : (node offset : ℕ) (b : Boundary ℕ) → IsUpTo node offset b → (eqb b.node node && nat_lt offset b.offset) ≡ false
past_none node offset b up = by (eqb b.node node) refl
  where
    by : (t : Bool) → eqb b.node node ≡ t → (t && nat_lt offset b.offset) ≡ false
    by false e = refl
    by true e = false_from_ne_true (nat_lt offset b.offset) (λ f. omega (arith, up (eqb-true b.node node e), ltb-true offset b.offset f))

-- an insertion moves none there
pub insert-none : (parent index count : ℕ) (b : Boundary ℕ) → IsUpTo parent index b → after_insert eqb parent index count b ≡ b
insert-none parent index count b up = ap (λ (t : Bool). cond t (at parent (b.offset + count)) b) (past_none parent index b up)

-- nor does what moves up
pub closing-none : (parent index : ℕ) (b : Boundary ℕ) → IsUpTo parent index b → after_closing parent index b ≡ b
closing-none parent index b up = ap (λ (t : Bool). cond t (at parent (b.offset - 1)) b) (past_none parent index b up)

-- ranges of which no end is moved
pub ends-kept : (f : Boundary ℕ → Boundary ℕ) (rs : RangeList) → EachRange (BothEnds (λ b. f b ≡ b)) rs → ends_by f rs ≡ rs
ends-kept f [] each = refl
ends-kept f (None ∷ rs) each = ap (λ zs. None ∷ zs) (ends-kept f rs (λ k r e. each (suc k) r e))
ends-kept f (Some r ∷ rs) each =
    let h = each 0 r refl in
    cons_same (Some (map_ends f r)) (Some r) (ends_by f rs) rs (ap Some (both_same (f r.start) (f r.end) r.start r.end h.0 h.1))
    (ends-kept f rs (λ k s e. each (suc k) s e))

-- ranges of which each end is moved alike
pub ends-alike : (f g : Boundary ℕ → Boundary ℕ) (rs : RangeList) → EachRange (BothEnds (λ b. f b ≡ g b)) rs → ends_by f rs ≡ ends_by g rs
ends-alike f g [] each = refl
ends-alike f g (None ∷ rs) each = ap (λ zs. None ∷ zs) (ends-alike f g rs (λ k r e. each (suc k) r e))
ends-alike f g (Some r ∷ rs) each =
    let h = each 0 r refl in
    cons_same (Some (map_ends f r)) (Some (map_ends g r)) (ends_by f rs) (ends_by g rs)
    (ap Some (both_same (f r.start) (f r.end) (g r.start) (g r.end) h.0 h.1)) (ends-alike f g rs (λ k s e. each (suc k) s e))

-- ---- an index that is looked for only as far as ends stand

-- a join by a number that stands for the index
pub join-near : (first size next : ℕ) {parent index near : ℕ} (b : Boundary ℕ) → IsNear parent index near b →
    after_join eqb first size next parent near b ≡ after_join eqb first size next parent index b
join-near first size next {parent} b (inl e) = ap (λ (i : ℕ). after_join eqb first size next parent i b) e
join-near first size next {parent} {index} {near} b (inr h) =
    ap (λ (t : Bool). cond (eqb b.node next) (at first (b.offset + size)) (cond t (at first size) b)) (tests (eqb b.node parent) refl)
  where
    tests : (t : Bool) → eqb b.node parent ≡ t → (t && eqb b.offset near) ≡ (t && eqb b.offset index)
    tests false e = refl
    tests true e =
        let below = h.1 (eqb-true b.node parent e) in
        false_from_ne_true (eqb b.offset near) (λ f. omega (arith, below, eqb-true b.offset near f)) ∙
        sym (false_from_ne_true (eqb b.offset index) (λ f. omega (arith, below, h.0, eqb-true b.offset index f)))

-- ---- a removal in two steps

module _ (inside : ℕ → Bool) (parent index : ℕ) where
  -- of an end that is not inside the second step is all there is
  pub removal-outside : (b : Boundary ℕ) → inside b.node ≡ false → after_removal eqb inside parent index b ≡ after_closing parent index b
  removal-outside b e = ap (λ (t : Bool). cond t (at parent index) (after_closing parent index b)) e

  -- an end at the index does not move up
  pub removal-twice : (b : Boundary ℕ) → after_removal eqb inside parent index b ≡ after_closing parent index (after_leaving inside parent index b)
  removal-twice b = by (inside b.node)
    where
      by : (t : Bool) → cond t (at parent index) (after_closing parent index b) ≡ after_closing parent index (cond t (at parent index) b)
      by true = sym (closing-none parent index (at parent index) (λ _. omega arith))
      by false = refl

-- ---- the table after all ends were moved

-- what a table keeps
pub kept-moved : (rule : Boundary ℕ → Boundary ℕ) {live after : Slab Points} {n : Numbers} {es now : List RangeEnd} → Moves rule live after →
    HaveNumbers live n → IsListed after now → IsSortedByPoint now → es ≡ now
    → HaveNumbers after n × IsListed after es × IsSortedByPoint es
kept-moved rule {live} {after} {n} moved held listed sorted same = (
  HaveNumbers-same after n (HoldSame-moved (map_ends rule) live after moved) (λ o. refl) held,
  subst (IsListed after) (sym same) listed,
  subst IsSortedByPoint (sym same) sorted,
)
