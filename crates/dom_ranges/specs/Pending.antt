-- An insertion that a table remembers: its ranges, as they are kept, have not been through it yet.
use Rattle.std.specs.Prelude.{ℕ, nat_eq, Option, Some, None}
use Rattle.dom_base.specs.declared.Owner.{Owner}
use Rattle.dom_model.specs.Place.{Boundary}
use Rattle.dom_model.specs.Ranges.{after_insert}
use Rattle.dom_ranges.specs.Rules.{Fits}
use Rattle.dom_ranges.specs.Tables.{RangeLists, ranges_of, all_ends_by, EachRange, BothEnds}
use Rattle.dom_ranges.specs.declared.change.Insertion.{Insertion}

-- what an insertion makes of a boundary point
abbrev pub after_insertion : Insertion → Boundary ℕ → Boundary ℕ
after_insertion s = after_insert nat_eq s.parent s.index s.count

-- each owner's live ranges as they are kept, after the insertion that is remembered
abbrev pub shown_after : Option Insertion → RangeLists → RangeLists
shown_after None t = t
shown_after (Some s) t = all_ends_by (after_insertion s) t

-- what it makes of each end is a number of the code's
abbrev pub CanFollow : Option Insertion → RangeLists → Type 0
CanFollow None t = Unit {0}
CanFollow (Some s) t = (o : Owner) → EachRange (BothEnds (λ b. Fits (after_insertion s b))) (ranges_of t o)
