-- The ends of a table's ranges stay at nodes, and their offsets below a bound, whatever call changes it.
use Rattle.std.specs.Prelude.{◌≡◌, ℕ, ◌+◌, ◌^◌, ◌<◌, ◌≤◌, Bool, List, [], ◌∷◌, ◌++◌, length, slice_set, nat_eq, Some, None, option_map}
use Rattle.dom_base.specs.declared.Owner.{Owner}
use Rattle.dom_base.specs.declared.NodeName.{NodeName}
use Rattle.dom_model.specs.Place.{Boundary}
use Rattle.dom_model.specs.Ranges.{Range, at, from_to, after_insert, after_removal, after_replace_data, after_split, after_join}
use Rattle.dom_tree.specs.Forest.{NamedTrees}
use Rattle.dom_ranges.specs.Rules.{Fits, IsAtNode, is_inside}
use Rattle.dom_ranges.specs.Settings.{start_set, end_set}
use Rattle.dom_ranges.specs.Tables.{RangeList, RangeLists, ranges_of, range_in, with_ranges, EachRange, BothEnds, ends_by, collapsed_range}

-- at a node with one of these names, at most at this offset
abbrev pub IsWithin : List NodeName → ℕ → Boundary ℕ → Type 0
IsWithin names most b = IsAtNode names b × (b.offset ≤ most)

-- so are both ends of each range of each owner
abbrev pub AreWithin : List NodeName → ℕ → RangeLists → Type 0
AreWithin names most t = (o : Owner) → EachRange (BothEnds (IsWithin names most)) (ranges_of t o)

-- both ends of each range of each owner are at nodes
abbrev pub AreAtNodes : List NodeName → RangeLists → Type 0
AreAtNodes names t = (o : Owner) → EachRange (BothEnds (IsAtNode names)) (ranges_of t o)

-- one owner has these ranges, and each other one those of before
abbrev pub HasRanges : Owner → RangeList → RangeLists → RangeLists → Type 0
HasRanges owner rs was now = (o : Owner) → ranges_of now o ≡ with_ranges was owner rs o

-- each end is as a rule rewrites it
abbrev pub HasMoved : (Boundary ℕ → Boundary ℕ) → RangeLists → RangeLists → Type 0
HasMoved f was now = (o : Owner) → ranges_of now o ≡ ends_by f (ranges_of was o)

-- what a rule makes of each end is a number of the code's
abbrev pub FitBy : (Boundary ℕ → Boundary ℕ) → RangeLists → Type 0
FitBy f t = (o : Owner) → EachRange (BothEnds (λ b. Fits (f b))) (ranges_of t o)

-- a rule brings ends that are within one bound within another one, and they fit where that bound does
abbrev pub Brings : List NodeName → ℕ → ℕ → (Boundary ℕ → Boundary ℕ) → Type 0
Brings names most more f =
    (was : RangeLists) → AreWithin names most was → (more < 2 ^ 64 → FitBy f was) × ((now : RangeLists) → HasMoved f was now → AreWithin names more now)

-- ---- what a caller takes from it, and gives

-- a table without ranges
abbrev pub NoneWithin : Type 0
NoneWithin = (names : List NodeName) (most : ℕ) (t : RangeLists) → ((o : Owner) → ranges_of t o ≡ []) → AreWithin names most t

-- a call that was refused, or had nothing to do
abbrev pub SameWithin : Type 0
SameWithin = (names : List NodeName) (most : ℕ) (was now : RangeLists) → ((o : Owner) → ranges_of now o ≡ ranges_of was o) → AreWithin names most was →
    AreWithin names most now

-- more nodes, and a greater bound
abbrev pub MoreWithin : Type 0
MoreWithin = (names more : List NodeName) (most greater : ℕ) (t : RangeLists) → length names ≤ length more → most ≤ greater → AreWithin names most t →
    AreWithin more greater t

-- the ends are at nodes
abbrev pub WithinAtNodes : Type 0
WithinAtNodes = (names : List NodeName) (most : ℕ) (t : RangeLists) → AreWithin names most t → (o : Owner) →
    EachRange (BothEnds (IsAtNode names)) (ranges_of t o)

-- ends at nodes are within some bound
abbrev pub SomeWithin : Type 0
SomeWithin = (names : List NodeName) (t : RangeLists) → AreAtNodes names t → (most : ℕ) × AreWithin names most t

-- ---- the calls on one range

-- a new range
abbrev pub MadeWithin : Type 0
MadeWithin = (names : List NodeName) (most : ℕ) (was now : RangeLists) (owner : Owner) (node : ℕ) → node < length names →
    HasRanges owner (ranges_of was owner ++ Some (from_to (at node 0) (at node 0)) ∷ []) was now → AreWithin names most was → AreWithin names most now

-- a range that was removed
abbrev pub RemovedWithin : Type 0
RemovedWithin = (names : List NodeName) (most : ℕ) (was now : RangeLists) (owner : Owner) (number : ℕ) →
    HasRanges owner (slice_set (ranges_of was owner) number None) was now → AreWithin names most was → AreWithin names most now

-- a range that was given other ends
abbrev pub WrittenWithin : Type 0
WrittenWithin = (names : List NodeName) (most : ℕ) (was now : RangeLists) (owner : Owner) (number : ℕ) (r : Range ℕ) → BothEnds (IsWithin names most) r →
    HasRanges owner (slice_set (ranges_of was owner) number (Some r)) was now → AreWithin names most was → AreWithin names most now

-- a range with another start
abbrev pub StartWithin : Type 0
StartWithin = (f : NamedTrees) (most : ℕ) (was now : RangeLists) (owner : Owner) (number node offset : ℕ) → node < length f.names → offset ≤ most →
    HasRanges owner (slice_set (ranges_of was owner) number (option_map (start_set f (at node offset)) (range_in (ranges_of was owner) number))) was now →
    AreWithin f.names most was → AreWithin f.names most now

-- a range with another end
abbrev pub EndWithin : Type 0
EndWithin = (f : NamedTrees) (most : ℕ) (was now : RangeLists) (owner : Owner) (number node offset : ℕ) → node < length f.names → offset ≤ most →
    HasRanges owner (slice_set (ranges_of was owner) number (option_map (end_set f (at node offset)) (range_in (ranges_of was owner) number))) was now →
    AreWithin f.names most was → AreWithin f.names most now

-- a range that was collapsed
abbrev pub CollapsedWithin : Type 0
CollapsedWithin = (names : List NodeName) (most : ℕ) (was now : RangeLists) (owner : Owner) (number : ℕ) (to_start : Bool) →
    HasRanges owner (slice_set (ranges_of was owner) number (option_map (collapsed_range to_start) (range_in (ranges_of was owner) number))) was now →
    AreWithin names most was → AreWithin names most now

-- ---- the steps of a change

-- an insertion
abbrev pub InsertWithin : Type 0
InsertWithin = (names : List NodeName) (most parent index count : ℕ) → parent < length names →
    Brings names most (most + count) (after_insert nat_eq parent index count)

-- a removal
abbrev pub RemovalWithin : Type 0
RemovalWithin = (f : NamedTrees) (most node parent index : ℕ) → parent < length f.names → index ≤ most →
    Brings f.names most most (after_removal nat_eq (is_inside f node) parent index)

-- replaced data
abbrev pub ReplaceDataWithin : Type 0
ReplaceDataWithin = (names : List NodeName) (most node offset count size : ℕ) → node < length names →
    Brings names most (most + size) (after_replace_data nat_eq node offset count size)

-- a split Text
abbrev pub SplitWithin : Type 0
SplitWithin = (names : List NodeName) (most node offset new parent index : ℕ) → new < length names → parent < length names →
    Brings names most (most + 1) (after_split nat_eq node offset new parent index)

-- joined Texts
abbrev pub JoinWithin : Type 0
JoinWithin = (names : List NodeName) (most first size next parent index : ℕ) → first < length names →
    Brings names most (most + size) (after_join nat_eq first size next parent index)
