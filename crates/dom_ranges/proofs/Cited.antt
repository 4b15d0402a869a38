-- What the proofs of this crate cite of std, of the definitions, and of the crates below.
pub use Rattle.dom_base.proofs.Std.{[], All, All-permutation, and_cases, and_parts, ap, append-nil, append_assoc, arith, Bool, cases_Bool, cases_eq}
pub use Rattle.dom_base.proofs.Std.{cases_lt, cases_order, cond, cond-false, count_by, drop, drop-set-lt, drop_at, eq-eqb, eqb, eqb-false, eqb-true}
pub use Rattle.dom_base.proofs.Std.{false, false_from_ne_true, ForSome, get_or, get_or-append_right, get_or-drop, get_or-le-sum_by, get_or-remove_above}
pub use Rattle.dom_base.proofs.Std.{get_or-remove_below, get_or-set_other, get_or-set_same, get_or-take, get_or_append_left, get_or_default, Global}
pub use Rattle.dom_base.proofs.Std.{if◌then◌else◌, inl, inr, is_some, IsNonDecreasingBy, IsNonDecreasingBy-from_sort_by_key, IsPartitionedBy}
pub use Rattle.dom_base.proofs.Std.{IsPartitionPoint-from_clause, IsPermutation, IsPermutation-append_comm, IsPermutation-cons, IsPermutation-put_mid}
pub use Rattle.dom_base.proofs.Std.{IsPermutation-refl, IsPermutation-remove, IsPermutation-sym, IsPermutation-trans, IsSome, le-leb, leb, leb-false}
pub use Rattle.dom_base.proofs.Std.{leb-true, length, length-append, length-drop, length-map, length-remove, length-set, length-take-le}
pub use Rattle.dom_base.proofs.Std.{length_permutation, List, lookup, lt-ltb, ltb, ltb-false, ltb-true, map, map-append, map-set, MatchOption, max, min}
pub use Rattle.dom_base.proofs.Std.{nat_eq, nat_le, nat_lt, None, none-some, not, not-false, Option, option_flatten, option_map, option_map_or}
pub use Rattle.dom_base.proofs.Std.{option_or, or_cases, or_parts, refl, remove, RotatedLeft, rules, same_Some, set, slice_get, slice_get-map}
pub use Rattle.dom_base.proofs.Std.{slice_get_within, slice_index_or, slice_set, Some, subst, suc, sum_by-append, sum_by-cons, sum_by-IsPermutation}
pub use Rattle.dom_base.proofs.Std.{SwappedAt, sym, take, take-set-le, take_all, true, true≢false, unwrap_or, Vec, vec_capacity, vec_len, with_item}
pub use Rattle.dom_base.proofs.Std.{zero, zero-add, ℕ, ◌&&◌, ◌*◌, ◌++◌, ◌+◌, ◌-◌, ◌/◌, ◌<◌, ◌==◌, ◌^◌, ◌||◌, ◌∙◌, ◌∷◌, ◌≡◌, ◌≢◌, ◌≤◌, ◌⊎◌}
pub use Rattle.dom_model.proofs.Model.{after_insert, after_join, after_removal, after_replace_data, after_split, at, Boundary, boundary_eq, children_of}
pub use Rattle.dom_model.proofs.Model.{Component, ComponentName, first_of, from_to, inclusive_ancestors, inclusive_descendants, index_of, is_before}
pub use Rattle.dom_model.proofs.Model.{is_inclusive_ancestor, items_after, items_before, last_of, list_before, map_ends, name_eq, name_eq-other, name_eq-same}
pub use Rattle.dom_model.proofs.Model.{name_eq-true, name_eq-turned, names_of, ne-owner_eq, Node, NodeName, none, Owner, owner_eq, owner_eq-false}
pub use Rattle.dom_model.proofs.Model.{owner_eq-same, owner_eq-true, Page, parent_of, place_from, place_of, previous_sibling, Range, root_of, roots, same_owner}
pub use Rattle.dom_model.proofs.Model.{same_root, siblings, tree, Trees, trees_below, with_end, with_start}
pub use Rattle.dom_laws.proofs.Laws.{above-along, above-below, above-beside, above-here, above-itself, above-parent, above-present, above-root}
pub use Rattle.dom_laws.proofs.Laws.{before-split, child-of_parent, children-single, Has, In, In-from, In-right, is_in-from, last_of-end, last_split}
pub use Rattle.dom_laws.proofs.Laws.{name_eq-from, no_last, Once, once_apart, outside-test, parent-of_child, Single, Single-apart, split_at}
pub use Rattle.dom_laws.proofs.Laws.{subtree-below, subtree-beside, subtree-here, two_or_more}
pub use Rattle.dom_ranges.specs.Definitions.{after_closing, after_insertion, after_leaving, all_ends_by, AreAllIn, AreAt, AreBeside, AreTested, AtMost}
pub use Rattle.dom_ranges.specs.Definitions.{AtMostBut, BothEnds, Brings, CanFollow, collapsed_range, CollapsedNamed, CollapsedWithin, depth_at, EachRange}
pub use Rattle.dom_ranges.specs.Definitions.{end_in, end_of, end_set, EndNamed, ends_by, EndWithin, Fits, GrownNamed, HasChanged, HasEndAt, HasRanges, HasRoom}
pub use Rattle.dom_ranges.specs.Definitions.{have_one_root, HaveNumbers, Insertion, InsertNamed, InsertWithin, is_chosen, is_end_of, is_in, is_inside}
pub use Rattle.dom_ranges.specs.Definitions.{is_key_before, IsAtNode, IsFirm, IsListed, IsListedAt, IsListedOnce, IsMovedPart, IsNamedRule, IsNear, IsOrdered}
pub use Rattle.dom_ranges.specs.Definitions.{IsSortedBeside, IsSortedBut, IsSortedByNode, IsSortedByPoint, IsTurned, IsUpTo, IsWithin, JoinNamed, JoinWithin}
pub use Rattle.dom_ranges.specs.Definitions.{KeepsOrder, KeepsOrderBut, LessThan, list_of, lists_of, MadeNamed, MadeWithin, MoreWithin, named_boundary}
pub use Rattle.dom_ranges.specs.Definitions.{named_ends_by, named_range, named_ranges, NoneWithin, Numbers, offset_of, path_at, point_at, point_of, Points}
pub use Rattle.dom_ranges.specs.Definitions.{range_from, range_in, range_kept, RangeEnd, RangeList, RangeLists, ranges_of, Reaches, RemovalNamed, RemovalWithin}
pub use Rattle.dom_ranges.specs.Definitions.{RemovedNamed, RemovedWithin, ReplaceDataNamed, ReplaceDataWithin, RewrittenNamed, SameWithin, shown, shown_after}
pub use Rattle.dom_ranges.specs.Definitions.{slots_of, SomeWithin, Span, SplitNamed, SplitWithin, StandAtNodes, Stands, StandsUnder, start_set, StartNamed}
pub use Rattle.dom_ranges.specs.Definitions.{StartWithin, times, with_end_at, with_named, with_ranges, WithinAtNodes, WrittenWithin}
pub use Rattle.dom_tree.proofs.Changes.{slice_get-pushed}
pub use Rattle.dom_tree.proofs.Owned.{name_apart, read_own}
pub use Rattle.dom_tree.proofs.OwnerLists.{had, none_from, of_ok, written-by, written-same}
pub use Rattle.dom_tree.proofs.Searching.{following_step}
pub use Rattle.dom_tree.proofs.Standing.{Has-forest, Once-forest, once_own, StandAlone, StandOnce}
pub use Rattle.dom_tree.specs.Definitions.{AreOf, AreOwned, HaveOwners, name_at, NamedTrees, StandsIn, TellApart, trees_of_owner}
pub use Rattle.node_arena.proofs.Numbers.{slice_get-push, slice_get-set}
pub use Rattle.slab.specs.Slab.{get, Slab, slab_len, Updates}
