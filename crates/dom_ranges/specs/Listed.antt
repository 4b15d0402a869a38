-- How the ends of live ranges are listed: each end once, with the boundary point where it stands, sorted by nodes, the last one first, and then by offsets.
use Rattle.std.specs.Prelude.{◌≡◌, ◌⊎◌, ℕ, ◌+◌, ◌-◌, ◌<◌, ◌≤◌, ◌≢◌, Bool, true, false, not, ◌&&◌, List, ◌++◌, length, slice_index_or, nat_eq, nat_lt}
use Rattle.std.specs.Prelude.{nat_le, Option, Some, option_map, is_some, count_by, cond}
use Rattle.std.specs.List.Sorted.{IsPermutation}
use Rattle.slab.specs.Slab.{Slab, get}
use Rattle.dom_model.specs.Place.{Boundary}
use Rattle.dom_model.specs.Ranges.{at}
use Rattle.dom_ranges.specs.declared.table.Points.{Points}
use Rattle.dom_ranges.specs.declared.ends.RangeEnd.{RangeEnd}
use Rattle.dom_ranges.specs.declared.ends.Span.{Span}

-- its offset
abbrev pub offset_of : RangeEnd → ℕ
offset_of e = e.offset

-- the boundary point where it stands
abbrev pub point_of : RangeEnd → Boundary ℕ
point_of e = at e.node e.offset

-- whether a listed end is this one of a slot's range
abbrev pub is_end_of : ℕ → Bool → RangeEnd → Bool
is_end_of slot true e = nat_eq e.slot slot && e.is_end
is_end_of slot false e = nat_eq e.slot slot && not e.is_end

-- how often one end of a slot's range is listed
abbrev pub times : ℕ → Bool → List RangeEnd → ℕ
times slot is_end es = count_by (is_end_of slot is_end) es

-- one end of a range
abbrev pub end_of : Bool → Points → Boundary ℕ
end_of true p = at p.end.0 p.end.1
end_of false p = at p.start.0 p.start.1

-- a range with another end or start
abbrev pub with_end_at : Bool → ℕ → ℕ → Points → Points
with_end_at true node offset p = record { start = p.start; end = (node, offset) }
with_end_at false node offset p = record { start = (node, offset); end = p.end }

-- one end of the range in a slot
abbrev pub point_at : Slab Points → ℕ → Bool → Option (Boundary ℕ)
point_at live slot is_end = option_map (end_of is_end) (get live slot)

-- a listed end stands where the list says
abbrev pub Stands : Slab Points → RangeEnd → Type 0
Stands live e = point_at live e.slot e.is_end ≡ Some (point_of e)

-- each end is listed once, where it stands
pub record IsListed (live : Slab Points) (es : List RangeEnd) : Type 0 where
  pub counted : (slot : ℕ) (is_end : Bool) → times slot is_end es ≡ cond (is_some (get live slot)) 1 0
  pub standing : (k : ℕ) (d : RangeEnd) → k < length es → Stands live (slice_index_or es k d)

-- an end is listed at this boundary point
abbrev pub IsListedAt : List RangeEnd → Boundary ℕ → Type 0
IsListedAt es b = (k : ℕ) × (k < length es) × ((d : RangeEnd) → point_of (slice_index_or es k d) ≡ b)

-- of two boundary points the first does not come after the second, by nodes from the last one on, and then by offsets
abbrev pub AtMost : Boundary ℕ → Boundary ℕ → Type 0
AtMost b c = (c.node ≤ b.node) × (b.node ≡ c.node → b.offset ≤ c.offset)

-- it comes before the second
abbrev pub LessThan : Boundary ℕ → Boundary ℕ → Type 0
LessThan b c = (c.node ≤ b.node) × (b.node ≡ c.node → b.offset < c.offset)

-- it does not come after the second, or both are at this node
abbrev pub AtMostBut : ℕ → Boundary ℕ → Boundary ℕ → Type 0
AtMostBut node b c = (c.node ≤ b.node) × (b.node ≡ c.node → b.node ≢ node → b.offset ≤ c.offset)

-- of each two ends, the one that is listed first and the other one are in a relation
abbrev pub IsOrdered : (Boundary ℕ → Boundary ℕ → Type 0) → List RangeEnd → Type 0
IsOrdered R es = (i j : ℕ) (d : RangeEnd) → i ≤ j → j < length es → R (point_of (slice_index_or es i d)) (point_of (slice_index_or es j d))

-- the ends are sorted by their nodes, and those at one node by their offsets
abbrev pub IsSortedByPoint : List RangeEnd → Type 0
IsSortedByPoint es = IsOrdered AtMost es

-- they are, but for the offsets of those at one node
abbrev pub IsSortedBut : ℕ → List RangeEnd → Type 0
IsSortedBut node es = IsOrdered (AtMostBut node) es

-- they are sorted by their nodes
abbrev pub IsSortedByNode : List RangeEnd → Type 0
IsSortedByNode es = IsOrdered (λ (b c : Boundary ℕ). c.node ≤ b.node) es

-- a part of the ends is sorted by node
abbrev pub IsSortedIn : List RangeEnd → Span → Type 0
IsSortedIn es part =
    (i j : ℕ) (d : RangeEnd) → part.first ≤ i → i ≤ j → j < part.behind → (slice_index_or es j d).node ≤ (slice_index_or es i d).node

-- the ends from low to high are at a node
abbrev pub AreAt : List RangeEnd → ℕ → ℕ → ℕ → Type 0
AreAt es low high node = (k : ℕ) (d : RangeEnd) → low ≤ k → k < high → (slice_index_or es k d).node ≡ node

-- a listed end is not one of those from low to high that are at a node
abbrev pub IsFirm : ℕ → ℕ → ℕ → ℕ → RangeEnd → Type 0
IsFirm low high node k e = (k < low) ⊎ ((high ≤ k) ⊎ (e.node ≢ node))

-- the ends are sorted but for those from low to high that are at a node, and for the offsets of all that are there
abbrev pub IsSortedBeside : List RangeEnd → ℕ → ℕ → ℕ → Type 0
IsSortedBeside es low high node =
    (i j : ℕ) (d : RangeEnd) → i ≤ j → j < length es → IsFirm low high node i (slice_index_or es i d) →
    IsFirm low high node j (slice_index_or es j d) → AtMostBut node (point_of (slice_index_or es i d)) (point_of (slice_index_or es j d))

-- what stood from middle to behind stands before what stood from first to middle
pub record IsTurned (es now : List RangeEnd) (first middle behind : ℕ) : Type 0 where
  pub outside : (k : ℕ) (d : RangeEnd) → (k < first) ⊎ (behind ≤ k) → slice_index_or now k d ≡ slice_index_or es k d
  pub second : (k : ℕ) (d : RangeEnd) → first ≤ k → k + middle < behind + first → slice_index_or now k d ≡ slice_index_or es (k + middle - first) d
  pub first_part : (k : ℕ) (d : RangeEnd) → k < behind → behind + first ≤ k + middle → slice_index_or now k d ≡ slice_index_or es (k + middle - behind) d

-- a place is in a part of a list
abbrev pub is_in : Span → ℕ → Bool
is_in part k = nat_le part.first k && nat_lt k part.behind

-- a place is in a part, and not in the one that is skipped
abbrev pub is_chosen : Span → Span → ℕ → Bool
is_chosen part skipped k = is_in part k && not (is_in skipped k)

-- the ends that are listed at the places within were moved by a rule, and the list says where they stand then
pub record IsMovedPart (rule : Boundary ℕ → Boundary ℕ) (target : ℕ) (es now : List RangeEnd) (within : ℕ → Bool) : Type 0 where
  pub same_length : length now ≡ length es
  pub same_slot : (k : ℕ) (d : RangeEnd) → (slice_index_or now k d).slot ≡ (slice_index_or es k d).slot
  pub same_end : (k : ℕ) (d : RangeEnd) → (slice_index_or now k d).is_end ≡ (slice_index_or es k d).is_end
  pub same_others : (k : ℕ) (d : RangeEnd) → within k ≡ false → slice_index_or now k d ≡ slice_index_or es k d
  pub goes : (k : ℕ) (d : RangeEnd) → ((slice_index_or now k d).node ≡ (slice_index_or es k d).node) ⊎ ((slice_index_or now k d).node ≡ target)
  pub moved : (k : ℕ) (d : RangeEnd) → k < length es → within k ≡ true →
      point_of (slice_index_or now k d) ≡ rule (point_of (slice_index_or es k d))

-- no end outside two parts is moved by a rule
abbrev pub AreAllIn : (Boundary ℕ → Boundary ℕ) → List RangeEnd → Span → Span → Type 0
AreAllIn rule es one two =
    (k : ℕ) (d : RangeEnd) → k < length es → is_in one k ≡ false → is_in two k ≡ false →
    rule (point_of (slice_index_or es k d)) ≡ point_of (slice_index_or es k d)

-- an end of the range in a slot, at a boundary point
abbrev pub end_in : ℕ → Bool → Boundary ℕ → RangeEnd
end_in slot is_end b = record { node = b.node; offset = b.offset; slot = slot; is_end = is_end }

-- an end is listed, and no other one is that end of the same range
pub record IsListedOnce (es : List RangeEnd) (e : RangeEnd) : Type 0 where
  pub place : ℕ
  pub within : place < length es
  pub there : (d : RangeEnd) → slice_index_or es place d ≡ e
  pub alone : (k : ℕ) (d : RangeEnd) → k < length es → (slice_index_or es k d).slot ≡ e.slot → (slice_index_or es k d).is_end ≡ e.is_end →
      slice_index_or es k d ≡ e

-- some ends of a list were exchanged for others
pub record HasChanged (es now xs ys : List RangeEnd) : Type 0 where
  pub rest : List RangeEnd
  pub before : IsPermutation es (xs ++ rest)
  pub after : IsPermutation (ys ++ rest) now
