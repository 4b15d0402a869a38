-- Where offsets are within their nodes' lengths, each step that tells the table of ranges leaves offsets that are numbers of the
-- code's: only the lengths of the nodes that the step names are asked for.
use Rattle.dom_mutation.proofs.Cited.{◌≡◌, ℕ, zero, suc, ◌+◌, ◌-◌, ◌<◌, ◌≤◌, ◌^◌, Bool, true, false, not, cond, ◌&&◌, ◌||◌, eqb, nat_lt, nat_le, List, [], ◌∷◌}
use Rattle.dom_mutation.proofs.Cited.{Option, Some, refl, sym, ap, subst, ◌∙◌, inl, inr, arith, slice_get, nat_eq, option_map, AllByRecursion, cases_Bool}
use Rattle.dom_mutation.proofs.Cited.{and_parts, eqb-true, same_Some, NodeName, Owner, owner_eq, Boundary, Range, at, boundary_eq, after_insert, after_removal}
use Rattle.dom_mutation.proofs.Cited.{after_replace_data, after_split, after_join, length_of, owner_eq-true, owner_eq-false, EndsWithin, HasBounds, named_range}
use Rattle.dom_mutation.proofs.Cited.{named_ranges, RangeList, RangeLists, EachRange, BothEnds, ends_by, ranges_of, EachRange-weaker, fits-split, name_at}
use Rattle.dom_mutation.proofs.Cited.{Contents, part_in, IsOwnPoint, AreRangesOf}
use Rattle.std.proofs.lemmas.Bool.{le-leb}
use Rattle.dom_mutation.proofs.RangedLists.{each_both, stay_where}
use Rattle.dom_ranges.specs.Definitions.{Fits}

-- what holds of all ranges by names holds of those over keys
each_named : (P : Option (Range NodeName) → Type 0) (names : List NodeName) (rs : RangeList) → AllByRecursion P (named_ranges names rs) →
    (k : ℕ) {r : Range ℕ} → slice_get rs k ≡ Some (Some r) → P (Some (named_range names r))
each_named P names [] all k e = cc
each_named P names (s ∷ rs) all zero {r} e = subst (λ o. P (option_map (named_range names) o)) (same_Some s (Some r) e) all.0
each_named P names (s ∷ rs) all (suc k) e = each_named P names rs all.1 k e

-- a choice of points
fits_if : (t : Bool) (b c : Boundary ℕ) → (t ≡ true → Fits b) → Fits c → Fits (cond t b c)
fits_if true b c h g = h refl
fits_if false b c h g = g

-- after a change of the boundary points by f, the offset of each of them is a number of the code's
abbrev pub EachFits : RangeLists → (Boundary ℕ → Boundary ℕ) → Type 0
EachFits t f = (q : Owner) → EachRange (BothEnds (λ b. Fits (f b))) (ranges_of t q)

module _ (c : Contents) (t : RangeLists) (ranges : AreRangesOf c t) (o : Owner) where
  -- what is asked of each point of each owner, where the points at a node are not past a length
  abbrev pub IsUpTo : ℕ → ℕ → Boundary ℕ → Type 0
  IsUpTo x most b = Fits b × (eqb b.node x ≡ true → b.offset ≤ most)

  up_to : (x most : ℕ) → (name_at c.names x).owner ≡ o → EachRange (BothEnds (λ b. eqb b.node x ≡ true → b.offset ≤ most)) (ranges_of t o) →
      (q : Owner) → EachRange (BothEnds (IsUpTo x most)) (ranges_of t q)
  up_to x most own within q = elim (cases_Bool (owner_eq q o)) [
    | inl e ↦
        let same = owner_eq-true q o e in
        EachRange-weaker (λ b. IsOwnPoint c.names q b × (eqb b.node x ≡ true → b.offset ≤ most)) (IsUpTo x most) (λ b h. (h.0.fits, h.1)) (ranges_of t q)
        (each_both (IsOwnPoint c.names q) (λ b. eqb b.node x ≡ true → b.offset ≤ most) (ranges_of t q) (ranges.own q)
        (subst (λ p. EachRange (BothEnds (λ b. eqb b.node x ≡ true → b.offset ≤ most)) (ranges_of t p)) (sym same) within))
    | inr e ↦
        EachRange-weaker (IsOwnPoint c.names q) (IsUpTo x most)
        (λ b h. (
          h.fits,
          λ at_x. absurd (owner_eq-false q o e
              (sym h.owner ∙ (ap (λ k. (name_at c.names k).owner) (eqb-true b.node x at_x) ∙ own))),
        )) (ranges_of t q) (ranges.own q)
  ]

  -- the points at a node of the owner are not past its length
  bounded : HasBounds (part_in c o) → (x : ℕ) →
      EachRange (BothEnds (λ b. eqb b.node x ≡ true → b.offset ≤ length_of (part_in c o).trees (name_at c.names x))) (ranges_of t o)
  bounded bounds x k r e =
      let all : AllByRecursion (EndsWithin (part_in c o).trees) (named_ranges c.names (ranges_of t o)) =
      subst (AllByRecursion (EndsWithin (part_in c o).trees)) (ranges.shown o) bounds.ranges in
      let both = each_named (EndsWithin (part_in c o).trees) c.names (ranges_of t o) all k e in (
        λ at_x. subst (λ j. r.start.offset ≤ length_of (part_in c o).trees (name_at c.names j)) (eqb-true r.start.node x at_x) both.0,
        λ at_x. subst (λ j. r.end.offset ≤ length_of (part_in c o).trees (name_at c.names j)) (eqb-true r.end.node x at_x) both.1,
      )

  -- all points fit
  pub all_fit : (q : Owner) → EachRange (BothEnds Fits) (ranges_of t q)
  all_fit q = EachRange-weaker (IsOwnPoint c.names q) Fits (λ b h. h.fits) (ranges_of t q) (ranges.own q)

  -- where no more come than give way, no bounds are asked for
  pub data_fits_shorter : (x offset count size : ℕ) → offset < 2 ^ 64 → size ≤ count → EachFits t (after_replace_data nat_eq x offset count size)
  data_fits_shorter x offset count size before less q =
      EachRange-weaker Fits (λ b. Fits (after_replace_data nat_eq x offset count size b))
      (λ b h. fits_if (not (eqb b.node x) || nat_le b.offset offset) b
      (cond (nat_le b.offset (offset + count)) (at x offset) (at x (b.offset + size - count))) (λ e. h)
      (fits_if (nat_le b.offset (offset + count)) (at x offset) (at x (b.offset + size - count)) (λ e. before)
      (let small : b.offset < 2 ^ 64 = h in omega (arith, small, less))))
      (ranges_of t q) (all_fit q)

  -- a Text was split
  pub split_fits : (x offset new parent index : ℕ) → index + 2 < 2 ^ 64 → EachFits t (after_split nat_eq x offset new parent index)
  split_fits x offset new parent index less q =
      EachRange-weaker Fits (λ b. Fits (after_split nat_eq x offset new parent index b)) (λ b h. fits-split x offset new parent index b less h)
      (ranges_of t q) (all_fit q)

  -- a node leaves its parent: no bounds are asked for
  pub removal_fits : (inside : ℕ → Bool) (parent index : ℕ) → index < 2 ^ 64 → EachFits t (after_removal nat_eq inside parent index)
  removal_fits inside parent index less q =
      EachRange-weaker Fits (λ b. Fits (after_removal nat_eq inside parent index b))
      (λ b h. fits_if (inside b.node) (at parent index) (cond (eqb b.node parent && nat_lt index b.offset) (at parent (b.offset - 1)) b) (λ e. less)
      (fits_if (eqb b.node parent && nat_lt index b.offset) (at parent (b.offset - 1)) b (λ e. omega (arith, h)) h)) (ranges_of t q) (all_fit q)

  -- what is done at a node of the owner, where its part has bounds
  module _ (bounds : HasBounds (part_in c o)) (x : ℕ) (own : (name_at c.names x).owner ≡ o) where
    -- room is made for children of the node
    pub room_fits : (index count : ℕ) → length_of (part_in c o).trees (name_at c.names x) + count < 2 ^ 64 → EachFits t (after_insert nat_eq x index count)
    room_fits index count less q =
        let most = length_of (part_in c o).trees (name_at c.names x) in
        EachRange-weaker (IsUpTo x most) (λ b. Fits (after_insert nat_eq x index count b))
        (λ b h. fits_if (eqb b.node x && nat_lt index b.offset) (at x (b.offset + count)) b
        (λ e. let p = and_parts (eqb b.node x) (nat_lt index b.offset) e in let within = h.1 p.0 in omega (arith, within, less)) h.0)
        (ranges_of t q) (up_to x most own (bounded bounds x) q)

    -- data give way to others: the new length is asked for
    pub data_fits : (offset count size : ℕ) → offset < 2 ^ 64 → length_of (part_in c o).trees (name_at c.names x) + size - count < 2 ^ 64 →
        EachFits t (after_replace_data nat_eq x offset count size)
    data_fits offset count size before less q =
        let most = length_of (part_in c o).trees (name_at c.names x) in
        EachRange-weaker (IsUpTo x most) (λ b. Fits (after_replace_data nat_eq x offset count size b)) (λ b h. moved b h) (ranges_of t q)
        (up_to x most own (bounded bounds x) q)
      where
        moved : (b : Boundary ℕ) → IsUpTo x (length_of (part_in c o).trees (name_at c.names x)) b → Fits (after_replace_data nat_eq x offset count size b)
        moved b h = elim (cases_Bool (eqb b.node x)) [
          | inl e ↦
              let within = h.1 e in
              fits_if (not (eqb b.node x) || nat_le b.offset offset) b
              (cond (nat_le b.offset (offset + count)) (at x offset) (at x (b.offset + size - count))) (λ f. h.0)
              (fits_if (nat_le b.offset (offset + count)) (at x offset) (at x (b.offset + size - count)) (λ f. before) (omega (arith, within, less)))
          | inr e ↦ rw e h.0
        ]

    -- data that come behind all of the node's move no point
    pub behind_stay : (size : ℕ) (q : Owner) →
        ends_by (after_replace_data nat_eq x (length_of (part_in c o).trees (name_at c.names x)) 0 size) (ranges_of t q) ≡ ranges_of t q
    behind_stay size q =
        let most = length_of (part_in c o).trees (name_at c.names x) in
        stay_where (after_replace_data nat_eq x most 0 size) (ranges_of t q)
        (EachRange-weaker (IsUpTo x most) (λ b. after_replace_data nat_eq x most 0 size b ≡ b) stays (ranges_of t q) (up_to x most own (bounded bounds x) q))
      where
        stays : (b : Boundary ℕ) → IsUpTo x (length_of (part_in c o).trees (name_at c.names x)) b →
            after_replace_data nat_eq x (length_of (part_in c o).trees (name_at c.names x)) 0 size b ≡ b
        stays b h = elim (cases_Bool (eqb b.node x)) [
          | inl e ↦ rw (e, le-leb b.offset (length_of (part_in c o).trees (name_at c.names x)) (h.1 e)) refl
          | inr e ↦ rw e refl
        ]

    -- the node's data come behind those of the Text before it
    pub join_fits : (first size parent index : ℕ) → length_of (part_in c o).trees (name_at c.names x) + size < 2 ^ 64 →
        EachFits t (after_join nat_eq first size x parent index)
    join_fits first size parent index less q =
        let most = length_of (part_in c o).trees (name_at c.names x) in
        EachRange-weaker (IsUpTo x most) (λ b. Fits (after_join nat_eq first size x parent index b))
        (λ b h. fits_if (eqb b.node x) (at first (b.offset + size)) (cond (boundary_eq nat_eq b (at parent index)) (at first size) b)
        (λ e. let within = h.1 e in omega (arith, within, less))
        (fits_if (boundary_eq nat_eq b (at parent index)) (at first size) b (λ e. let small : size < 2 ^ 64 = omega (arith, less) in small) h.0))
        (ranges_of t q) (up_to x most own (bounded bounds x) q)
