-- What holds of each end of a table's ranges, after each call; and offsets that fit the code's numbers.
use Rattle.dom_ranges.proofs.Cited.{◌≡◌, inl, inr, ℕ, ◌+◌, ◌-◌, ◌<◌, ◌^◌, Bool, true, false, cond, [], ◌∷◌, ◌++◌, eqb, nat_lt, Option, Some, None, refl, sym}
use Rattle.dom_ranges.proofs.Cited.{ap, subst, ◌∙◌, arith, slice_get, slice_set, ◌&&◌, option_map, option_flatten, cases_eq, same_Some, none-some, Boundary}
use Rattle.dom_ranges.proofs.Cited.{slice_get-push, Range, at, boundary_eq, after_split, BothEnds, EachRange, Fits, range_in, RangeList}
use Rattle.dom_ranges.proofs.Lists.{set-at, set-other}

module _ (P : Boundary ℕ → Type 0) where
  -- a range more
  pub stand-made : (rs : RangeList) (r : Range ℕ) → BothEnds P r → EachRange (BothEnds P) rs → EachRange (BothEnds P) (rs ++ Some r ∷ [])
  stand-made rs r here each k s e = elim (slice_get-push rs k (Some r) (Some s) e) [
    | inl f ↦ subst (BothEnds P) (sym (same_Some _ _ f.1)) here
    | inr f ↦ each k s f
  ]

  -- a range with other ends
  pub stand-set : (rs : RangeList) (k : ℕ) (r : Range ℕ) → BothEnds P r → EachRange (BothEnds P) rs → EachRange (BothEnds P) (slice_set rs k (Some r))
  stand-set rs k r here each j s e = elim (cases_eq j k) [
    | inl f ↦ subst (BothEnds P) (sym (same_Some _ _
        (set-at rs k (Some r) (Some s) (subst (λ i. slice_get (slice_set rs k (Some r)) i ≡ Some (Some s)) f e)))) here
    | inr off ↦ each j s (sym (set-other rs k (Some r) j off) ∙ e)
  ]

  -- a range less
  pub stand-cleared : (rs : RangeList) (k : ℕ) → EachRange (BothEnds P) rs → EachRange (BothEnds P) (slice_set rs k None)
  stand-cleared rs k each j s e = elim (cases_eq j k) [
    | inl f ↦ absurd (none-some s (sym (set-at rs k None (Some s) (subst (λ i. slice_get (slice_set rs k None) i ≡ Some (Some s)) f e))))
    | inr off ↦ each j s (sym (set-other rs k None j off) ∙ e)
  ]

  -- the range of a number
  pub stand-at : (rs : RangeList) (k : ℕ) (r : Range ℕ) → EachRange (BothEnds P) rs → range_in rs k ≡ Some r → BothEnds P r
  stand-at rs k r each e = by (slice_get rs k) refl e
    where
      by : (t : Option (Option (Range ℕ))) → slice_get rs k ≡ t → option_flatten t ≡ Some r → BothEnds P r
      by None f g = absurd (none-some r g)
      by (Some t) f g = each k r (f ∙ ap Some g)

  -- a range rewritten by a rule that keeps its ends so
  pub stand-rewritten : (f : Range ℕ → Range ℕ) → ((r : Range ℕ) → BothEnds P r → BothEnds P (f r)) → (rs : RangeList) (k : ℕ) → EachRange (BothEnds P) rs
      → EachRange (BothEnds P) (slice_set rs k (option_map f (range_in rs k)))
  stand-rewritten f keeps rs k each = by (range_in rs k) refl
    where
      by : (t : Option (Range ℕ)) → range_in rs k ≡ t → EachRange (BothEnds P) (slice_set rs k (option_map f t))
      by None e = stand-cleared rs k each
      by (Some r) e = stand-set rs k (f r) (keeps r (stand-at rs k r each e)) each

-- what is weaker holds too
pub EachRange-weaker : (P Q : Boundary ℕ → Type 0) → ((b : Boundary ℕ) → P b → Q b) → (rs : RangeList) → EachRange (BothEnds P) rs → EachRange (BothEnds Q) rs
EachRange-weaker P Q step rs each k r e = let both = each k r e in (step r.start both.0, step r.end both.1)

-- ---- offsets that fit

-- a choice of points
fits-if : (c : Bool) (x y : Boundary ℕ) → Fits x → Fits y → Fits (cond c x y)
fits-if true x y p q = p
fits-if false x y p q = q

-- at an offset in a node
module _ (node offset : ℕ) where
  -- where one can be added
  pub fits-split : (new parent index : ℕ) (b : Boundary ℕ) → index + 2 < 2 ^ 64 → Fits b → Fits (after_split eqb node offset new parent index b)
  fits-split new parent index b l p =
      fits-if (eqb b.node node && nat_lt offset b.offset) (at new (b.offset - offset))
      (cond (boundary_eq eqb b (at parent (index + 1))) (at parent (index + 2)) b) (omega (arith, p))
      (fits-if (boundary_eq eqb b (at parent (index + 1))) (at parent (index + 2)) b l p)
