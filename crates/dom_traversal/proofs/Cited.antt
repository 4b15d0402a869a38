-- What the proofs of this crate cite of std, of the definitions, and of the crates below.
pub use Rattle.dom_base.proofs.Std.{[], and_from, and_left, and_parts, and_right, ap, append-nil, append_assoc, arith, Bool, both_ways, cases_Bool}
pub use Rattle.dom_base.proofs.Std.{cases_eq, cases_lt, cases_order, cond, Contains, Contains-append_cases, Contains-append_right, Contains-permutation}
pub use Rattle.dom_base.proofs.Std.{drop, eqb, eqb-false, eqb-true, Err, false, false_from_ne_true, filter, filter-append, find, ForSome, get, get_or}
pub use Rattle.dom_base.proofs.Std.{get_or-remove_above, get_or-remove_below, get_or_default, IfOk, if◌then◌else◌, inl, inr, insert, is_none, is_some}
pub use Rattle.dom_base.proofs.Std.{IsErrAnd, IsPartitionedBy, IsPartitionPoint-from_clause, IsPermutation-remove, IsPermutation-sym, IsSome, length}
pub use Rattle.dom_base.proofs.Std.{length-append, length-remove, List, list_all, list_any, lookup, ltb, ltb-false, ltb-true, None, none-some, not}
pub use Rattle.dom_base.proofs.Std.{not-false, Ok, on_err_weaker, on_ok_weaker, Option, option_map, or_from, or_left, or_parts, or_right, refl, remove}
pub use Rattle.dom_base.proofs.Std.{Result, rules, same_Some, slice_get, slice_get-get_or, slice_get_within, slice_set, Some, subst, suc, sym, true}
pub use Rattle.dom_base.proofs.Std.{true≢false, unwrap_or, zero, ℕ, ◌&&◌, ◌++◌, ◌+◌, ◌-◌, ◌<◌, ◌||◌, ◌↔◌, ◌∙◌, ◌∷◌, ◌≡◌, ◌≢◌, ◌≤◌, ◌⊎◌}
pub use Rattle.dom_model.proofs.Model.{accepts, adjusted_iterator, ancestors, answer_at, between, children_of, Fault, Filter, first_of, inclusive_ancestors}
pub use Rattle.dom_model.proofs.Model.{inclusive_descendants, is_element, is_in, is_inclusive_ancestor, is_reject, is_shown, is_skip, items_after, items_before}
pub use Rattle.dom_model.proofs.Model.{Iterator, iterator_next_node, last_of, Limit, Memory, Move, name_eq, name_eq-other, NameFilter, ne-owner_eq}
pub use Rattle.dom_model.proofs.Model.{next_sibling, Node, node_in, NodeName, nodes_ahead, nodes_passed, none, Owner, owner_eq, owner_eq-same, owner_eq-true}
pub use Rattle.dom_model.proofs.Model.{parent_of, previous_sibling, Refused, Reject, rejects, same_owner, Show, sibling_top, Skip, skips, subtree, text_eq}
pub use Rattle.dom_model.proofs.Model.{tree, Trees, Verdict, verdict_at, Walker, walker_children, walker_move, walker_nodes, walker_siblings, walker_step}
pub use Rattle.dom_laws.proofs.Laws.{above-absent, above-along, above-below, above-beside, above-chain, above-from_below, above-here, above-itself}
pub use Rattle.dom_laws.proofs.Laws.{above-parent, above-proper, above-split, above-within, after-in, after-split, ahead-apart, ahead-outside}
pub use Rattle.dom_laws.proofs.Laws.{all_single, before-in, behind-next, behind_is, below, below-from_above, beyond-outside, child_places, filter-no}
pub use Rattle.dom_laws.proofs.Laws.{filter-none, filter-same, filter-yes, first-miss, first_child, first_split, following_place, Has, Has-above}
pub use Rattle.dom_laws.proofs.Laws.{Has-names, Has-subtree, has_or_not, here, In, In-from, In-left, In-names, In-not, In-parts, In-right, inside-test}
pub use Rattle.dom_laws.proofs.Laws.{is_in-from, is_in-not, IsWithin, joined, keeps_placed, last-hit, last-miss, last_child, last_of-end, last_split}
pub use Rattle.dom_laws.proofs.Laws.{name_eq-from, next_places, no_child, no_first, no_key, no_last_child, no_next, no_previous, none_left, not_before}
pub use Rattle.dom_laws.proofs.Laws.{Once, once_apart, ordered, outside-test, parent-of_child, previous_places, proper-parent, same_or_not, Single}
pub use Rattle.dom_laws.proofs.Laws.{Single-apart, Single-append, Single-right, some_ahead, split_at, split_is, splits, stands_in, stays, top_places}
pub use Rattle.dom_laws.proofs.Laws.{was_some, within-itself, within-member, within-parent, within-root, within-top}
pub use Rattle.dom_laws.specs.Within.{ahead_of, behind, beyond, from_node, up_to_node, up_to_tree}
pub use Rattle.dom_traversal.specs.Definitions.{AllCursors, AreLeft, AreListed, AreOutside, AreSorted, AreTested, Begins, BeginsBackward, BeginsForward}
pub use Rattle.dom_traversal.specs.Definitions.{ByOwner}
pub use Rattle.dom_traversal.specs.Definitions.{child_move, ComesBack, cursors_in, cursors_of, Direction, EachItem, entered_by, entries_of, filter_of}
pub use Rattle.dom_traversal.specs.Definitions.{is_accepted_but}
pub use Rattle.dom_traversal.specs.Definitions.{is_candidate, is_entered, is_inside, is_opened, is_passable, is_reached, is_stop, IsBefore, IsIteratorOf}
pub use Rattle.dom_traversal.specs.Definitions.{IsLeft, IsLeftIf, IsUpTo, IsWalkerOf, iterator_at, iterator_found, iterator_left, iterator_rest, iterator_view}
pub use Rattle.dom_traversal.specs.Definitions.{KeyedIterator, KeyedTables, KeyedWalker, MayHaveLeft, name_filter_of, Next, no_keyed_tables, outer_child}
pub use Rattle.dom_traversal.specs.Definitions.{Previous, reached_from, Reference, reference_at, show_of, sibling_in, sibling_move, stands_before, StepsBehind}
pub use Rattle.dom_traversal.specs.Definitions.{StepsBeside, stop_above, stop_of, table_at, walker_at, walker_left, walker_rest, walker_view, with_cursors}
pub use Rattle.dom_traversal.specs.Definitions.{Writes}
pub use Rattle.dom_tree.proofs.OwnerLists.{of_ok}
pub use Rattle.dom_tree.proofs.Searching.{following_step, IsWithin-itself, IsWithin-key, left-ahead, left-behind, length-ahead, length-behind, preceding_step}
pub use Rattle.dom_tree.proofs.Searching.{StandsIn-found}
pub use Rattle.dom_tree.proofs.Standing.{Has-forest, IsWithin-forest, Once-forest, other_key, other_name, StandAlone, StandOnce}
pub use Rattle.dom_tree.specs.Definitions.{name_at, NamedTrees, StandsBelow, StandsIn, TellApart}
pub use Rattle.node_arena.proofs.Numbers.{slice_get-push}
