-- The table of ranges read in names: each rule over keys, with the names put in, is the same rule over names.
use Rattle.std.specs.Prelude.{◌≡◌, ℕ, ◌<◌, Bool, List, [], ◌∷◌, ◌++◌, map, length, slice_get, slice_set, nat_eq, Option, Some, None, option_map}
use Rattle.std.specs.Option.{option_flatten}
use Rattle.dom_base.specs.declared.NodeName.{NodeName}
use Rattle.dom_model.specs.Names.{name_eq}
use Rattle.dom_model.specs.Place.{Boundary}
use Rattle.dom_model.specs.Ranges.{Range, at, from_to, map_ends, after_insert, after_removal, after_replace_data, after_split, after_join, with_start, with_end}
use Rattle.dom_model.specs.Tree.{is_inclusive_ancestor}
use Rattle.dom_tree.specs.Forest.{NamedTrees, name_at}
use Rattle.dom_tree.specs.Apart.{TellApart}
use Rattle.dom_ranges.specs.Rules.{IsAtNode, is_inside}
use Rattle.dom_ranges.specs.Settings.{named_boundary, named_range, named_ranges, start_set, end_set}
use Rattle.dom_ranges.specs.Tables.{RangeList, EachRange, BothEnds, ends_by, range_in, collapsed_range}

-- the ends of all ranges of a list are at nodes with these names
abbrev pub StandAtNodes : List NodeName → RangeList → Type 0
StandAtNodes names rs = EachRange (BothEnds (IsAtNode names)) rs

-- live ranges by names, each end as f rewrites it
abbrev pub named_ends_by : (Boundary NodeName → Boundary NodeName) → List (Option (Range NodeName)) → List (Option (Range NodeName))
named_ends_by f rs = map (option_map (map_ends f)) rs

-- a rule over keys, named, is a rule over names
abbrev pub IsNamedRule : List NodeName → (Boundary ℕ → Boundary ℕ) → (Boundary NodeName → Boundary NodeName) → Type 0
IsNamedRule names f g = (rs : RangeList) → StandAtNodes names rs → named_ranges names (ends_by f rs) ≡ named_ends_by g (named_ranges names rs)

-- and keeps ends at nodes
abbrev pub KeepsNodes : List NodeName → (Boundary ℕ → Boundary ℕ) → Type 0
KeepsNodes names f = (rs : RangeList) → StandAtNodes names rs → StandAtNodes names (ends_by f rs)

-- insertions
abbrev pub InsertNamed : Type 0
InsertNamed = (names : List NodeName) → TellApart names → (parent index count : ℕ) → parent < length names
    → IsNamedRule names (after_insert nat_eq parent index count) (after_insert name_eq (name_at names parent) index count) ×
    KeepsNodes names (after_insert nat_eq parent index count)

-- removals
abbrev pub RemovalNamed : Type 0
RemovalNamed = (f : NamedTrees) → TellApart f.names → (node parent index : ℕ) → parent < length f.names
    → IsNamedRule f.names (after_removal nat_eq (is_inside f node) parent index)
    (after_removal name_eq (is_inclusive_ancestor f.trees (name_at f.names node)) (name_at f.names parent) index)
    × KeepsNodes f.names (after_removal nat_eq (is_inside f node) parent index)

-- replaced data
abbrev pub ReplaceDataNamed : Type 0
ReplaceDataNamed = (names : List NodeName) → TellApart names → (node offset count size : ℕ) → node < length names
    → IsNamedRule names (after_replace_data nat_eq node offset count size) (after_replace_data name_eq (name_at names node) offset count size)
    × KeepsNodes names (after_replace_data nat_eq node offset count size)

-- split Texts
abbrev pub SplitNamed : Type 0
SplitNamed = (names : List NodeName) → TellApart names → (node offset new parent index : ℕ) → node < length names → new < length names → parent < length names
    → IsNamedRule names (after_split nat_eq node offset new parent index)
    (after_split name_eq (name_at names node) offset (name_at names new) (name_at names parent) index)
    × KeepsNodes names (after_split nat_eq node offset new parent index)

-- joined Texts
abbrev pub JoinNamed : Type 0
JoinNamed = (names : List NodeName) → TellApart names → (first size next parent index : ℕ) → first < length names → next < length names → parent < length names
    → IsNamedRule names (after_join nat_eq first size next parent index)
    (after_join name_eq (name_at names first) size (name_at names next) (name_at names parent) index)
    × KeepsNodes names (after_join nat_eq first size next parent index)

-- a start that is set
abbrev pub StartNamed : Type 0
StartNamed = (f : NamedTrees) (b : Boundary ℕ) (r : Range ℕ) →
    named_range f.names (start_set f b r) ≡ with_start f.trees (named_boundary f.names b) (named_range f.names r)

-- an end that is set
abbrev pub EndNamed : Type 0
EndNamed = (f : NamedTrees) (b : Boundary ℕ) (r : Range ℕ) →
    named_range f.names (end_set f b r) ≡ with_end f.trees (named_boundary f.names b) (named_range f.names r)

-- more names leave the named table as it is
abbrev pub GrownNamed : Type 0
GrownNamed = (names more : List NodeName) (rs : RangeList) → StandAtNodes names rs → (named_ranges (names ++ more) rs ≡ named_ranges names rs) ×
    StandAtNodes (names ++ more) rs

-- a range that was made
abbrev pub MadeNamed : Type 0
MadeNamed = (names : List NodeName) (rs : RangeList) (node : ℕ)
    → named_ranges names (rs ++ Some (from_to (at node 0) (at node 0)) ∷ []) ≡ named_ranges names rs ++
    Some (from_to (at (name_at names node) 0) (at (name_at names node) 0)) ∷ []

-- a range that was removed
abbrev pub RemovedNamed : Type 0
RemovedNamed = (names : List NodeName) (rs : RangeList) (k : ℕ) → named_ranges names (slice_set rs k None) ≡ slice_set (named_ranges names rs) k None

-- a range that was rewritten, as by `collapsed_range`
abbrev pub RewrittenNamed : Type 0
RewrittenNamed = (names : List NodeName) (f : Range ℕ → Range ℕ) (g : Range NodeName → Range NodeName) →
    ((r : Range ℕ) → named_range names (f r) ≡ g (named_range names r))
    → (rs : RangeList) (k : ℕ) → named_ranges names (slice_set rs k (option_map f (range_in rs k))) ≡ slice_set (named_ranges names rs) k
    (option_map g (option_flatten (slice_get (named_ranges names rs) k)))

-- a range that was collapsed
abbrev pub CollapsedNamed : Type 0
CollapsedNamed = (names : List NodeName) (to_start : Bool) (r : Range ℕ) →
    named_range names (collapsed_range to_start r) ≡ collapsed_range to_start (named_range names r)
