-- The ends of a table's ranges stay at nodes, and below a bound.
use Rattle.dom_ranges.proofs.Cited.{◌≡◌, inl, inr, ℕ, zero, suc, ◌+◌, ◌-◌, ◌≤◌, Bool, true, false, not, cond, List, [], ◌∷◌, ◌++◌, eqb, nat_lt, nat_le, Option}
use Rattle.dom_ranges.proofs.Cited.{Some, None, refl, sym, subst, arith, true≢false, slice_get, slice_set, ◌&&◌, ◌||◌, option_map, option_flatten, eqb-true}
use Rattle.dom_ranges.proofs.Cited.{leb-false, or_parts, same_Some, none-some, Owner, NodeName, owner_eq, Boundary, Range, at, from_to, boundary_eq}
use Rattle.dom_ranges.proofs.Cited.{after_insert, after_removal, after_replace_data, after_split, after_join, slice_get-set, BothEnds, Brings, collapsed_range}
use Rattle.dom_ranges.proofs.Cited.{CollapsedWithin, EachRange, end_set, EndWithin, HasRanges, have_one_root, InsertWithin, is_inside, is_key_before, IsWithin}
use Rattle.dom_ranges.proofs.Cited.{JoinWithin, MadeWithin, MoreWithin, NoneWithin, range_in, RangeList, RangeLists, ranges_of, RemovalWithin, RemovedWithin}
use Rattle.dom_ranges.proofs.Cited.{ReplaceDataWithin, SameWithin, SomeWithin, SplitWithin, start_set, StartWithin, WithinAtNodes, WrittenWithin}
use Rattle.dom_ranges.proofs.Naming.{EachRange-ends}

-- ---- lists of ranges

-- what holds of each range
module _ (P : Range ℕ → Type 0) where
  each_none : EachRange P []
  each_none k r e = absurd (none-some _ e)

  each_push : (rs : RangeList) (r : Range ℕ) → EachRange P rs → P r → EachRange P (rs ++ Some r ∷ [])
  each_push [] r each here zero s e = subst P (same_Some r s (same_Some _ _ e)) here
  each_push [] r each here (suc k) s e = absurd (none-some _ e)
  each_push (q ∷ rs) r each here zero s e = each 0 s e
  each_push (q ∷ rs) r each here (suc k) s e = each_push rs r (λ j t f. each (suc j) t f) here k s e

  each_set : (rs : RangeList) (number : ℕ) (o : Option (Range ℕ)) → EachRange P rs → ((r : Range ℕ) → o ≡ Some r → P r) →
      EachRange P (slice_set rs number o)
  each_set rs number o each here k r e = elim (slice_get-set rs number k o (Some r) e) [
    | inl h ↦ here r (sym h.1)
    | inr h ↦ each k r h
  ]

  -- a range that f rewrites
  each_rewritten : (rs : RangeList) (number : ℕ) (f : Range ℕ → Range ℕ) → EachRange P rs → ((r : Range ℕ) → P r → P (f r)) →
      EachRange P (slice_set rs number (option_map f (range_in rs number)))
  each_rewritten rs number f each step =
      each_set rs number (option_map f (range_in rs number)) each (by (slice_get rs number) refl)
    where
      by : (o : Option (Option (Range ℕ))) → slice_get rs number ≡ o → (r : Range ℕ) → option_map f (option_flatten o) ≡ Some r → P r
      by None e r g = absurd (none-some r g)
      by (Some None) e r g = absurd (none-some r g)
      by (Some (Some q)) e r g = subst P (same_Some (f q) r g) (step q (each number q e))

  -- of a table
  abbrev each_of : RangeLists → Type 0
  each_of t = (o : Owner) → EachRange P (ranges_of t o)

  -- a table in which one owner's list changed
  module _ (was now : RangeLists) (owner : Owner) (each : each_of was) where
    each_owner : (rs : RangeList) → HasRanges owner rs was now → EachRange P rs → each_of now
    each_owner rs is here o =
        subst (λ (qs : RangeList). EachRange P qs) (sym (is o)) (by (owner_eq owner o))
      where
        by : (b : Bool) → EachRange P (cond b rs (ranges_of was o))
        by true = here
        by false = each o

    -- f rewrote a range of it
    owner_rewritten : (number : ℕ) (f : Range ℕ → Range ℕ) →
        HasRanges owner (slice_set (ranges_of was owner) number (option_map f (range_in (ranges_of was owner) number))) was now →
        ((r : Range ℕ) → P r → P (f r)) → each_of now
    owner_rewritten number f is step = each_owner _ is (each_rewritten (ranges_of was owner) number f (each owner) step)

-- ---- tables

brings : (names : List NodeName) (most more : ℕ) (f : Boundary ℕ → Boundary ℕ) →
    ((b : Boundary ℕ) → IsWithin names most b → IsWithin names more (f b)) → Brings names most more f
brings names most more f step was within = (
  λ less o k r e.
      let both = within o k r e in
      let first = (step r.start both.0).1 in
      let second = (step r.end both.1).1 in
      (omega (arith, first, less), omega (arith, second, less)),
  λ now moved o.
      subst (λ (rs : RangeList). EachRange (BothEnds (IsWithin names more)) rs) (sym (moved o))
      (EachRange-ends (IsWithin names most) (IsWithin names more) f step (ranges_of was o) (within o)),
)

-- ---- what a caller takes from it, and gives

pub none-within : NoneWithin
none-within names most t none o =
    subst (λ (rs : RangeList). EachRange (BothEnds (IsWithin names most)) rs) (sym (none o)) (each_none (BothEnds (IsWithin names most)))

pub same-within : SameWithin
same-within names most was now same within o =
    subst (λ (rs : RangeList). EachRange (BothEnds (IsWithin names most)) rs) (sym (same o)) (within o)

pub more-within : MoreWithin
more-within names more most greater t longer up within o k r e =
    let both = within o k r e in
    let first = both.0 in
    let second = both.1 in
    ((omega (arith, first.0, longer), omega (arith, first.1, up)), (omega (arith, second.0, longer), omega (arith, second.1, up)))

pub within-at_nodes : WithinAtNodes
within-at_nodes names most t within o k r e = let both = within o k r e in (both.0.0, both.1.0)

-- no offset of a list of ranges is greater than all of them together
abbrev offsets : RangeList → ℕ
offsets [] = 0
offsets (None ∷ rs) = offsets rs
offsets (Some r ∷ rs) = r.start.offset + r.end.offset + offsets rs

within-offsets : (rs : RangeList) (k : ℕ) (r : Range ℕ) → slice_get rs k ≡ Some (Some r) → r.start.offset + r.end.offset ≤ offsets rs
within-offsets [] k r e = absurd (none-some _ e)
within-offsets (None ∷ rs) zero r e = absurd (none-some _ (same_Some _ _ e))
within-offsets (None ∷ rs) (suc k) r e = within-offsets rs k r e
within-offsets (Some q ∷ rs) zero r e =
    subst (λ (s : Range ℕ). s.start.offset + s.end.offset ≤ offsets (Some q ∷ rs)) (same_Some q r (same_Some _ _ e)) (omega arith)
within-offsets (Some q ∷ rs) (suc k) r e = let rest = within-offsets rs k r e in omega (arith, rest)

abbrev all-offsets : RangeLists → ℕ
all-offsets [] = 0
all-offsets (e ∷ t) = offsets e.1 + all-offsets t

within-all : (t : RangeLists) (o : Owner) → offsets (ranges_of t o) ≤ all-offsets t
within-all [] o = omega arith
within-all (e ∷ t) o = by (owner_eq o e.0) (within-all t o)
  where
    by : (b : Bool) → offsets (ranges_of t o) ≤ all-offsets t → offsets (cond b e.1 (ranges_of t o)) ≤ offsets e.1 + all-offsets t
    by true rest = omega arith
    by false rest = omega (arith, rest)

pub some-within : SomeWithin
some-within names t nodes = (
  all-offsets t,
  λ o k r e.
      let both = nodes o k r e in
      let own = within-offsets (ranges_of t o) k r e in
      let all = within-all t o in
      ((both.0, omega (arith, own, all)), (both.1, omega (arith, own, all))),
)

-- ---- the calls on one range

pub made-within : MadeWithin
made-within names most was now owner node there is within =
    let here : IsWithin names most (at node 0) = (there, omega arith) in
    each_owner (BothEnds (IsWithin names most)) was now owner within _ is
    (each_push (BothEnds (IsWithin names most)) (ranges_of was owner) (from_to (at node 0) (at node 0)) (within owner) (here, here))

pub removed-within : RemovedWithin
removed-within names most was now owner number is within =
    each_owner (BothEnds (IsWithin names most)) was now owner within _ is
    (each_set (BothEnds (IsWithin names most)) (ranges_of was owner) number None (within owner) (λ r e. absurd (none-some r e)))

pub written-within : WrittenWithin
written-within names most was now owner number r here is within =
    let P = BothEnds (IsWithin names most) in
    each_owner P was now owner within _ is
    (each_set P (ranges_of was owner) number (Some r) (within owner) (λ s e. subst P (same_Some r s e) here))

-- a choice of ranges
both_if : (P : Range ℕ → Type 0) (c : Bool) (q r : Range ℕ) → P q → P r → P (cond c q r)
both_if P true q r p s = p
both_if P false q r p s = s

pub start-within : StartWithin
start-within f most was now owner number node offset there small is within =
    let P = BothEnds (IsWithin f.names most) in
    let b = at node offset in
    owner_rewritten P was now owner within number (start_set f b) is
    (λ r both. both_if P (have_one_root f b r.end && not (is_key_before f r.end b)) (from_to b r.end) (from_to b b) ((there, small), both.1)
    ((there, small), (there, small)))

pub end-within : EndWithin
end-within f most was now owner number node offset there small is within =
    let P = BothEnds (IsWithin f.names most) in
    let b = at node offset in
    owner_rewritten P was now owner within number (end_set f b) is
    (λ r both. both_if P (have_one_root f b r.start && not (is_key_before f b r.start)) (from_to r.start b) (from_to b b) (both.0, (there, small))
    ((there, small), (there, small)))

pub collapsed-within : CollapsedWithin
collapsed-within names most was now owner number to_start is within =
    owner_rewritten (BothEnds (IsWithin names most)) was now owner within number (collapsed_range to_start) is (by to_start)
  where
    by : (b : Bool) (r : Range ℕ) → BothEnds (IsWithin names most) r → BothEnds (IsWithin names most) (collapsed_range b r)
    by true r both = (both.0, both.0)
    by false r both = (both.1, both.1)

-- ---- the steps of a change

-- a choice of boundary points
point_if : (P : Boundary ℕ → Type 0) (c : Bool) (x y : Boundary ℕ) → (c ≡ true → P x) → (c ≡ false → P y) → P (cond c x y)
point_if P true x y p q = p refl
point_if P false x y p q = q refl

second : (x y : Bool) → (x && y) ≡ true → y ≡ true
second true y e = e
second false y e = absurd (true≢false (sym e))

pub insert-within : InsertWithin
insert-within names most parent index count there =
    brings names most (most + count) (after_insert eqb parent index count) (λ b p.
    point_if (IsWithin names (most + count)) (eqb b.node parent && nat_lt index b.offset) (at parent (b.offset + count)) b
    (λ _. (there, omega (arith, p.1))) (λ _. (p.0, omega (arith, p.1))))

pub removal-within : RemovalWithin
removal-within f most node parent index there small =
    brings f.names most most (after_removal eqb (is_inside f node) parent index) (λ b p.
    point_if (IsWithin f.names most) (is_inside f node b.node) (at parent index) _ (λ _. (there, small)) (λ _.
    point_if (IsWithin f.names most) (eqb b.node parent && nat_lt index b.offset) (at parent (b.offset - 1)) b
    (λ _. (there, omega (arith, p.1))) (λ _. p)))

pub replace_data-within : ReplaceDataWithin
replace_data-within names most node offset count size there =
    brings names most (most + size) (after_replace_data eqb node offset count size) (λ b p.
    point_if (IsWithin names (most + size)) (not (eqb b.node node) || nat_le b.offset offset) b _ (λ _. (p.0, omega (arith, p.1))) (λ off.
    let past = leb-false b.offset offset (or_parts (not (eqb b.node node)) (nat_le b.offset offset) off).1 in
    point_if (IsWithin names (most + size)) (nat_le b.offset (offset + count)) (at node offset) (at node (b.offset + size - count))
    (λ _. (there, omega (arith, p.1, past))) (λ _. (there, omega (arith, p.1)))))

pub split-within : SplitWithin
split-within names most node offset new parent index fresh above =
    brings names most (most + 1) (after_split eqb node offset new parent index) (λ b p.
    point_if (IsWithin names (most + 1)) (eqb b.node node && nat_lt offset b.offset) (at new (b.offset - offset)) _ (λ _. (fresh, omega (arith, p.1))) (λ _.
    point_if (IsWithin names (most + 1)) (boundary_eq eqb b (at parent (index + 1))) (at parent (index + 2)) b
    (λ same. let is = eqb-true b.offset (index + 1) (second (eqb b.node parent) _ same) in (above, omega (arith, p.1, is)))
    (λ _. (p.0, omega (arith, p.1)))))

pub join-within : JoinWithin
join-within names most first size next parent index there =
    brings names most (most + size) (after_join eqb first size next parent index) (λ b p.
    point_if (IsWithin names (most + size)) (eqb b.node next) (at first (b.offset + size)) _ (λ _. (there, omega (arith, p.1))) (λ _.
    point_if (IsWithin names (most + size)) (boundary_eq eqb b (at parent index)) (at first size) b (λ _. (there, omega arith))
    (λ _. (p.0, omega (arith, p.1)))))
