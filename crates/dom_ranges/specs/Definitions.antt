-- What proofs cite of this crate's definitions.
pub use Rattle.dom_ranges.specs.Climbs.{AreBeside, AreTested, depth_at, path_at, Reaches}
pub use Rattle.dom_ranges.specs.Listed.{AreAllIn, AreAt, AtMost, AtMostBut, end_in, end_of, HasChanged, is_chosen, is_end_of, IsFirm, is_in, IsListed}
pub use Rattle.dom_ranges.specs.Listed.{IsListedAt, IsListedOnce, IsMovedPart, IsOrdered, IsSortedBeside, IsSortedBut, IsSortedByNode, IsSortedByPoint}
pub use Rattle.dom_ranges.specs.Listed.{IsTurned, LessThan, offset_of, point_at, point_of, Stands, times, with_end_at}
pub use Rattle.dom_ranges.specs.Naming.{CollapsedNamed, EndNamed, GrownNamed, InsertNamed, IsNamedRule, JoinNamed, KeepsNodes, MadeNamed, named_ends_by}
pub use Rattle.dom_ranges.specs.Naming.{RemovalNamed, RemovedNamed, ReplaceDataNamed, RewrittenNamed, SplitNamed, StandAtNodes, StartNamed}
pub use Rattle.dom_ranges.specs.Pending.{after_insertion, CanFollow, shown_after}
pub use Rattle.dom_ranges.specs.RangeSlots.{HasRoom, HaveNumbers, lists_of, range_kept, shown, slots_of, StandsUnder}
pub use Rattle.dom_ranges.specs.Rules.{after_closing, after_leaving, Fits, IsAtNode, is_inside, IsNear, IsUpTo, KeepsOrder, KeepsOrderBut}
pub use Rattle.dom_ranges.specs.Settings.{end_set, have_one_root, is_key_before, named_boundary, named_range, named_ranges, start_set, with_named}
pub use Rattle.dom_ranges.specs.Staying.{AreWithin, Brings, CollapsedWithin, EndWithin, FitBy, HasMoved, HasRanges, InsertWithin, IsWithin, JoinWithin}
pub use Rattle.dom_ranges.specs.Staying.{MadeWithin, MoreWithin, NoneWithin, RemovalWithin, RemovedWithin, ReplaceDataWithin, SameWithin, SomeWithin}
pub use Rattle.dom_ranges.specs.Staying.{SplitWithin, StartWithin, WithinAtNodes, WrittenWithin}
pub use Rattle.dom_ranges.specs.Tables.{all_ends_by, BothEnds, collapsed_range, EachRange, ends_by, HasEndAt, list_of, range_from, range_in, RangeList}
pub use Rattle.dom_ranges.specs.Tables.{RangeLists, ranges_of, with_ranges}
pub use Rattle.dom_ranges.specs.declared.change.Insertion.{Insertion}
pub use Rattle.dom_ranges.specs.declared.ends.RangeEnd.{RangeEnd}
pub use Rattle.dom_ranges.specs.declared.ends.Span.{Span}
pub use Rattle.dom_ranges.specs.declared.numbers.Numbers.{Numbers}
pub use Rattle.dom_ranges.specs.declared.table.Points.{Points}
