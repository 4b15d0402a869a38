-- What a contract sees of a `RangeTable`: each owner's live ranges, with keys in place of their nodes' names.
use Rattle.std.specs.Prelude.{◌≡◌, ◌⊎◌, ℕ, List, [], ◌∷◌, map, slice_get, Bool, true, false, Option, Some, option_map, if◌then◌else◌}
use Rattle.std.specs.Option.{option_flatten}
use Rattle.dom_base.specs.declared.Owner.{Owner}
use Rattle.dom_model.specs.Names.{owner_eq}
use Rattle.dom_model.specs.Place.{Boundary}
use Rattle.dom_model.specs.Ranges.{Range, at, from_to, map_ends}
use Rattle.dom_ranges.specs.declared.table.Points.{Points}

-- an owner's live ranges by their numbers: one that was removed leaves none
abbrev pub RangeList : Type 0
RangeList = List (Option (Range ℕ))

-- the lists of the owners; an owner's first list counts
abbrev pub RangeLists : Type 0
RangeLists = List (Owner × RangeList)

-- the list of an owner, which is empty where there is none
abbrev pub list_of : {X : Type 0} → List (Owner × List X) → Owner → List X
list_of [] o = []
list_of (e ∷ es) o = if owner_eq o e.0 then e.1 else list_of es o

-- an owner's live ranges
abbrev pub ranges_of : RangeLists → Owner → RangeList
ranges_of t o = list_of t o

-- the live range of a number
abbrev pub range_in : RangeList → ℕ → Option (Range ℕ)
range_in rs k = option_flatten (slice_get rs k)

-- each owner's live ranges, with others for one owner
abbrev pub with_ranges : RangeLists → Owner → RangeList → Owner → RangeList
with_ranges t o rs p = if owner_eq o p then rs else ranges_of t p

-- a range by its two ends
abbrev pub range_from : Points → Range ℕ
range_from p = from_to (at p.start.0 p.start.1) (at p.end.0 p.end.1)

-- an owner's live ranges, each end as f rewrites it
abbrev pub ends_by : (Boundary ℕ → Boundary ℕ) → RangeList → RangeList
ends_by f rs = map (option_map (map_ends f)) rs

-- so are those of all owners
abbrev pub all_ends_by : (Boundary ℕ → Boundary ℕ) → RangeLists → RangeLists
all_ends_by f t = map (λ e. (e.0, ends_by f e.1)) t

-- what holds of each live range of a list
abbrev pub EachRange : (Range ℕ → Type 0) → RangeList → Type 0
EachRange P rs = (k : ℕ) (r : Range ℕ) → slice_get rs k ≡ Some (Some r) → P r

-- both ends hold a fact
abbrev pub BothEnds : (Boundary ℕ → Type 0) → Range ℕ → Type 0
BothEnds P r = P r.start × P r.end

-- a live range has an end at this boundary point
abbrev pub HasEndAt : RangeLists → Boundary ℕ → Type 0
HasEndAt t b =
    (o : Owner) × (k : ℕ) × (r : Range ℕ) × (slice_get (ranges_of t o) k ≡ Some (Some r)) × ((r.start ≡ b) ⊎ (r.end ≡ b))

-- a range with both ends at one of them (DOM Standard, collapse)
abbrev pub collapsed_range : {N : Type 0} → Bool → Range N → Range N
collapsed_range true r = from_to r.start r.start
collapsed_range false r = from_to r.end r.end
