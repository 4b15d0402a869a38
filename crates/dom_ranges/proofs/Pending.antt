-- What a table shows that remembers an insertion.
use Rattle.dom_ranges.proofs.Cited.{◌≡◌, ◌⊎◌, inl, inr, ℕ, Option, Some, None, refl, sym, ap, ◌∙◌, subst, arith, slice_get, option_map, option_flatten}
use Rattle.dom_ranges.proofs.Cited.{none-some, slice_get-map, Owner, Boundary, Range, at, map_ends, after_insertion, all_ends_by, BothEnds, CanFollow}
use Rattle.dom_ranges.proofs.Cited.{EachRange, ends_by, Fits, HasEndAt, Insertion, IsUpTo, range_in, RangeList, RangeLists, ranges_of, shown_after}
use Rattle.dom_base.proofs.Std.{common_steps}
use Rattle.dom_ranges.proofs.Holding.{list_of-map}
use Rattle.dom_ranges.proofs.Lists.{map_twice}
use Rattle.dom_ranges.proofs.Moved.{both_same}

-- ---- lists of which a rule rewrote each end

-- an owner's ranges
pub ranges-by : (f : Boundary ℕ → Boundary ℕ) {t v w : RangeLists} → w ≡ all_ends_by f t → t ≡ v → (o : Owner) → ranges_of w o ≡ ends_by f (ranges_of v o)
ranges-by f {t} {v} {w} is same o =
    ap (λ (x : RangeLists). ranges_of x o) is ∙ (list_of-map (option_map (map_ends f)) t o ∙ ap (λ (x : RangeLists). ends_by f (ranges_of x o)) same)

module _ (f : Boundary ℕ → Boundary ℕ) (t v : RangeLists) (shown : all_ends_by f t ≡ v) where
  -- what stands under a number of an owner
  at-by : (o : Owner) (k : ℕ) → slice_get (ranges_of v o) k ≡ option_map (option_map (map_ends f)) (slice_get (ranges_of t o) k)
  at-by o k = ap (λ (rs : RangeList). slice_get rs k) (ranges-by f (sym shown) refl o) ∙ slice_get-map (option_map (map_ends f)) (ranges_of t o) k

  -- the range of a number
  pub range_in-by : (o : Owner) (k : ℕ) → range_in (ranges_of v o) k ≡ option_map (map_ends f) (range_in (ranges_of t o) k)
  range_in-by o k = ap option_flatten (at-by o k) ∙ by (slice_get (ranges_of t o) k)
    where
      by : (m : Option (Option (Range ℕ))) → option_flatten (option_map (option_map (map_ends f)) m) ≡ option_map (map_ends f) (option_flatten m)
      by None = refl
      by (Some m) = refl

  -- an end
  pub end-by : (b : Boundary ℕ) → HasEndAt t b → HasEndAt v (f b)
  end-by b w = (
    w.0,
    w.1,
    map_ends f w.2,
    at-by w.0 w.1 ∙ ap (option_map (option_map (map_ends f))) w.3,
    elim w.4 [ inl e ↦ inl (ap f e) | inr e ↦ inr (ap f e) ],
  )

  -- what holds of each end then
  pub each-before : (P : Boundary ℕ → Type 0) → ((o : Owner) → EachRange (BothEnds P) (ranges_of v o)) → (o : Owner) →
      EachRange (BothEnds (λ b. P (f b))) (ranges_of t o)
  each-before P each o k r there = each o k (map_ends f r) (at-by o k ∙ ap (option_map (option_map (map_ends f))) there)

  -- a rule that does the same as this one and then another
  pub ranges-twice : (g h : Boundary ℕ → Boundary ℕ) → ((b : Boundary ℕ) → h b ≡ g (f b)) → (o : Owner) →
      ranges_of (all_ends_by h t) o ≡ ends_by g (ranges_of v o)
  ranges-twice g h both o =
      list_of-map (option_map (map_ends h)) t o
      ∙ (map_twice (option_map (map_ends f)) (option_map (map_ends g)) (option_map (map_ends h)) (ranges_of t o) by
      ∙ ap (ends_by g) (sym (ranges-by f (sym shown) refl o)))
    where
      by : (m : Option (Range ℕ)) → option_map (map_ends h) m ≡ option_map (map_ends g) (option_map (map_ends f) m)
      by None = refl
      by (Some r) = ap Some (both_same (h r.start) (h r.end) (g (f r.start)) (g (f r.end)) (both r.start) (both r.end))

-- a table shows no range under a number where it keeps none, and the other way round
pub none-alike : (p : Option Insertion) (t : RangeLists) (o : Owner) (k : ℕ) →
    (range_in (ranges_of (shown_after p t) o) k ≡ None → range_in (ranges_of t o) k ≡ None)
    × (range_in (ranges_of t o) k ≡ None → range_in (ranges_of (shown_after p t) o) k ≡ None)
none-alike None t o k = (λ e. e, λ e. e)
none-alike (Some s) t o k =
    let f = map_ends (after_insertion s) in
    let same = range_in-by (after_insertion s) t (all_ends_by (after_insertion s) t) refl o k in
    (λ e. by f (range_in (ranges_of t o) k) (sym same ∙ e), λ e. same ∙ ap (option_map f) e)
  where
    by : (f : Range ℕ → Range ℕ) (m : Option (Range ℕ)) → option_map f m ≡ None → m ≡ None
    by f None e = refl
    by f (Some r) e = absurd (none-some _ (sym e))

-- ---- what the insertion makes of an end

module _ (s : Insertion) (node offset : ℕ) {to moved : ℕ} (is : at to moved ≡ after_insertion s (at node offset)) where
  -- what is up to an offset of a node is up to what becomes of it
  pub moved-up_to : (b : Boundary ℕ) → IsUpTo node offset b → IsUpTo node moved (after_insertion s b)
  moved-up_to b up = grind (arith, common_steps)

  -- an end stays in its node
  pub moved-at : at node moved ≡ after_insertion s (at node offset)
  moved-at = grind (arith, common_steps)

-- the greatest offset of a node fits after an insertion that fits
pub fits-reached : (s : Insertion) (t : RangeLists) (node offset : ℕ) → CanFollow (Some s) t → (offset ≡ 0) ⊎ HasEndAt t (at node offset) →
    Fits (after_insertion s (at node offset))
fits-reached s t node offset fits (inl e) = grind (arith, common_steps)
fits-reached s t node offset fits (inr w) =
    let both = fits w.0 w.1 w.2 w.3 in
    elim w.4 [
      | inl e ↦ subst (λ b. Fits (after_insertion s b)) e both.0
      | inr e ↦ subst (λ b. Fits (after_insertion s b)) e both.1
    ]
