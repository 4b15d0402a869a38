-- What the proofs of this crate cite of std, of the definitions, and of the crates below.
pub use Rattle.dom_base.proofs.Std.{[], add-one, add-zero, All, All-filter, All-head, All-nil, All-tail, AllByRecursion, and_parts, ap, append-nil}
pub use Rattle.dom_base.proofs.Std.{append_assoc, arith, Bool, cases_Bool, cases_lt, cond, cond-false, cond-true, cons_option, count_by, drop, drop-append-le}
pub use Rattle.dom_base.proofs.Std.{drop-cons, eq-or-lt_of_le, eqb, eqb-true, Err, false, false_from_ne_true, filter, filter-append, filter_map, find, flat_map}
pub use Rattle.dom_base.proofs.Std.{fold, ForSome, get_or, get_or-append, get_or-append_seam, IfErr, IfOk, if◌then◌else◌, inl, inr, is_none, is_some, IsSome}
pub use Rattle.dom_base.proofs.Std.{IsTrue, last_or, le-ltb, leb-false, length, length-append, length-map, length-set, length_push, List, list_all, list_any}
pub use Rattle.dom_base.proofs.Std.{lt-ltb, ltb, ltb-false, ltb-true, map, map-append, map-set, min, nat_eq, nat_le, nat_lt, None, none-some, not, not-false}
pub use Rattle.dom_base.proofs.Std.{Ok, on_err_weaker, on_ok_weaker, one-add, OnErr, OnOk, Option, option_and_then, option_flatten, option_map, option_map_or}
pub use Rattle.dom_base.proofs.Std.{option_to_list, or_left, or_parts, position, position_or_len, refl, Result, rules, same_Some, slice_get, slice_get-map}
pub use Rattle.dom_base.proofs.Std.{slice_get_within, slice_set, Some, subst, suc, sum_by-append, sum_by-cons, sym, take_while, take_while-cons, true}
pub use Rattle.dom_base.proofs.Std.{true≢false, unwrap_or, Vec, zero, zero-add, ℕ, ⊤, ◌&&◌, ◌++◌, ◌+◌, ◌-◌, ◌/◌, ◌<◌, ◌==◌, ◌^◌, ◌||◌, ◌↔◌, ◌∙◌, ◌∷◌, ◌≡◌, ◌≢◌}
pub use Rattle.dom_base.proofs.Std.{◌≤◌, ◌⊎◌}
pub use Rattle.dom_model.proofs.Model.{a_count, a_node, a_range, a_string, a_walker, accepts, adjusted_iterator, adopt_plan, after, after_insert, after_join}
pub use Rattle.dom_model.proofs.Model.{after_removal, after_replace_data, after_split, an_iterator, an_observer, ancestors, ancestors_at, answer_at, answers}
pub use Rattle.dom_model.proofs.Model.{append_once, at, attaching, attribute_value, attributes, between, both_at, boundaries, Boundary, boundary_eq}
pub use Rattle.dom_model.proofs.Model.{cannot_take_node, Change, change_node, change_subtree, changes, changes_range, changing_document, character_data}
pub use Rattle.dom_model.proofs.Model.{child_list, children_of, collapsed_to, Command, common_ancestor, Component, component_at, component_made}
pub use Rattle.dom_model.proofs.Model.{component_made-no_page, component_made-other, components_below, contiguous_texts_after, deleting, descendants, distinct}
pub use Rattle.dom_model.proofs.Model.{Document, document_below, doing, DomString, Effect, effect, empty_part, emptying, extracting, Fault, Filter, find_part}
pub use Rattle.dom_model.proofs.Model.{First, first_node, first_of, first_refusal, first_world, fits, from_to, has_data, has_document, has_node, host_above}
pub use Rattle.dom_model.proofs.Model.{host_of, hosts_from, in_turn, inclusive_ancestors, inclusive_descendants, index_of, IndexSize, insert_node_refusal}
pub use Rattle.dom_model.proofs.Model.{insert_plan, inserting_into_range, insertion_parent, interested, interested_in, InvalidCharacter, is_before}
pub use Rattle.dom_model.proofs.Model.{is_connected, is_document, is_empty, is_fragment, is_in, is_inclusive_ancestor, is_notify_of, is_owned_by, is_reject}
pub use Rattle.dom_model.proofs.Model.{is_shadow, is_shown, is_skip, is_taken, is_text, is_there, items_after, items_before, Iterator, iterator_next_node}
pub use Rattle.dom_model.proofs.Model.{iterator_previous_node, join_at, joining, joins, keeps, Kind, kind_at, kind_of, Last, last_of, leave, length_of, Limit}
pub use Rattle.dom_model.proofs.Model.{made_by, made_by-is, made_by-made, make, make_room, making_room, map_ends, map_nodes, MAX_COMPONENTS, max_depth}
pub use Rattle.dom_model.proofs.Model.{may_attach, may_attach-from, may_attach-word, may_be_host, MayAttach, Memory, micro_task, Move, moved_to, moves_iterator}
pub use Rattle.dom_model.proofs.Model.{name_before, name_eq, name_eq-other, name_eq-same, name_eq-true, named, names_of, ne-owner_eq, new_iterator, new_root}
pub use Rattle.dom_model.proofs.Model.{new_text_node, new_walker, Next, next_name, next_sibling, NextSibling, no_node, Node, node_in, node_of, node_or_null}
pub use Rattle.dom_model.proofs.Model.{NodeName, nodes, nodes_ahead, nodes_passed, NodeWord, none, none_interested, none_transient, normalizing}
pub use Rattle.dom_model.proofs.Model.{normalizing_text, nothing, notified, notify_task, NotSupported, observed, ObserveWords, Observing, of_range, only_if}
pub use Rattle.dom_model.proofs.Model.{or_else, own, Owner, owner-part_of, owner-part_step, owner_depth, owner_eq, owner_eq-false, owner_eq-same, owner_eq-true}
pub use Rattle.dom_model.proofs.Model.{Page, Parent, parent_of, Part, part_of, part_of-own_step, part_of-stepped, part_of-stepped-other, part_step}
pub use Rattle.dom_model.proofs.Model.{part_with_root, past_end, past_limit, place, placed, placed_nodes, placing, placing_tail, Plan, plan_of_range}
pub use Rattle.dom_model.proofs.Model.{pre_insert_refusal, Previous, previous_sibling, PreviousSibling, put_part, put_root, queue_of, queue_record}
pub use Rattle.dom_model.proofs.Model.{queued_notify, Range, range_at, range_text_of, record_in, recorded, reference, reference_child, Refusal, Refused}
pub use Rattle.dom_model.proofs.Model.{Registration, registrations_none, rejects, remove_plan, removing_from, replace_data, replace_plan, replace_refusal}
pub use Rattle.dom_model.proofs.Model.{replaced, replacing_all_data, replacing_children, replacing_data, root_at, root_of, roots, Said, same_root}
pub use Rattle.dom_model.proofs.Model.{set_attribute, set_document, set_range, sets_walker, setting_attribute, setting_text, Shadow, shadow_root_of}
pub use Rattle.dom_model.proofs.Model.{sibling_before, sibling_top, siblings, signals, Skip, skips, slots_among, some_if, split_at, splitting, start_reference}
pub use Rattle.dom_model.proofs.Model.{Step, steps_of, subtree, suppressed, tables, take_out, taken_out, target_of, Task, telling, times_in, transients_for}
pub use Rattle.dom_model.proofs.Model.{tree, Trees, trees_below, TypeFault, Unknown, unsetting_attribute, Value, Verdict, verdict_at, Walker, walker_children}
pub use Rattle.dom_model.proofs.Model.{walker_move, walker_nodes, walker_parent, walker_siblings, walker_step, with_attribute, with_data_replaced}
pub use Rattle.dom_model.proofs.Model.{with_document, with_end, with_name, with_node, with_notify_if, with_part, with_range, with_removal_signals}
pub use Rattle.dom_model.proofs.Model.{with_shadow_document, with_signal, with_signals, with_start, without_signals, Word, word-made, World, world_after}
pub use Rattle.dom_model.proofs.Model.{world_step, ◌and_then◌}
pub use Rattle.dom_laws.proofs.Laws.{above-itself, above_added, after-in, all_drop, behind_all, below_lacks, by_times, children_once, children_parent, Each}
pub use Rattle.dom_laws.proofs.Laws.{each_all, first_inside, first_lacks, from_first, from_next, In, is_in-from, is_some-map, keeps_changed}
pub use Rattle.dom_laws.proofs.Laws.{keeps_changed_below, keeps_placed, KeepsAbove, Lacks, lacks_both, lacks_from, lacks_to, left, name_eq-from, names_once}
pub use Rattle.dom_laws.proofs.Laws.{next_child, next_walked, none_or_some, NoTwice, Once, once_counted, once_parts, once_subtree, one-true, parent_path}
pub use Rattle.dom_laws.proofs.Laws.{parent_taken, path_after, path_below, path_gone, path_here, path_lacks, path_mapped, path_none, path_placed, path_put_root}
pub use Rattle.dom_laws.proofs.Laws.{path_root, path_taken, StandsIn, subtree_mapped, swapped, times_count, times_in-none, times_in-tree, walked, Walks, walks}
pub use Rattle.dom_laws.proofs.Laws.{was_some}
pub use Rattle.dom_observers.proofs.Ascending.{path_keys-named}
pub use Rattle.dom_observers.proofs.Naming.{disconnected_law, emptied_law, left_law, making_law, none_pending_law, notices_law, notified_law, observing_law}
pub use Rattle.dom_observers.proofs.Naming.{queue-named, taken_law, telling_law, told_law}
pub use Rattle.dom_observers.proofs.Speaking.{all_got, all_queued, same_tables, speaks_disconnected, speaks_emptied, speaks_left, speaks_made, speaks_more}
pub use Rattle.dom_observers.proofs.Speaking.{speaks_none, speaks_none_pending, speaks_notified, speaks_observing, speaks_telling, speaks_told}
pub use Rattle.dom_ranges.proofs.EndsAfterCalls.{EachRange-weaker, fits-split, stand-at, stand-cleared, stand-made, stand-rewritten}
pub use Rattle.dom_ranges.proofs.Lists.{cons_same}
pub use Rattle.dom_ranges.proofs.Naming.{EachRange-ends, end-named, grown-named, insert-named, join-named, made-named, removal-named, removed-named}
pub use Rattle.dom_ranges.proofs.Naming.{replace_data-named, rewritten-named, split-named, start-named}
pub use Rattle.dom_ranges.proofs.OwnOrder.{IsOwnIn, with_end-own, with_start-own}
pub use Rattle.dom_ranges.proofs.Vacant.{ends-none}
pub use Rattle.dom_slots.proofs.Added.{slots-more}
pub use Rattle.dom_slots.proofs.Hosted.{host-key, host-named, host-node, key-test}
pub use Rattle.dom_slots.proofs.Recast.{keeps_if, slots-recast}
pub use Rattle.dom_slots.proofs.Shown.{signals-shown}
pub use Rattle.dom_traversal.proofs.Items.{push_items, set_items}
pub use Rattle.dom_traversal.proofs.Owners.{with-other, with-own}
pub use Rattle.dom_tree.proofs.OwnPlacings.{added, changed_node, changed_subtree, put, taken}
pub use Rattle.dom_tree.proofs.Owned.{AreOf-own, insertion_own, own_trees, read_own, replacement_own, stays_own}
pub use Rattle.dom_tree.proofs.Standing.{Has-forest, name_found, Once-forest, once_own, StandAlone, StandOnce, times_own}
pub use Rattle.dom_worlds.proofs.CommandLemmas.{absent-any, count-grows, ends-collapsed, ends-with_end, ends-with_start, fragment-no_shadow, has_node-times}
pub use Rattle.dom_worlds.proofs.CommandLemmas.{insertion-tested, name-node_in, node-read, parent-of_range, replacement-tested}
pub use Rattle.dom_worlds.proofs.ListLemmas.{all-append, all-set, all-then, by_cases, either_way, which_way}
pub use Rattle.dom_worlds.proofs.PlanLemmas.{after-append, Allowed, Asked, blind-into_range, common_below, ends-at, Fits, IsKept, IsOwn, Keeps, keeps-adopting}
pub use Rattle.dom_worlds.proofs.PlanLemmas.{keeps-and_then, keeps-deleting, keeps-each, keeps-emptying, keeps-extracting, keeps-in_turn, keeps-inserting}
pub use Rattle.dom_worlds.proofs.PlanLemmas.{keeps-inserting_into_range, keeps-making_room, keeps-normalizing, keeps-normalizing_text, keeps-placing}
pub use Rattle.dom_worlds.proofs.PlanLemmas.{keeps-placing_tail, keeps-removing, keeps-replacing, keeps-replacing_data, keeps-setting_attribute}
pub use Rattle.dom_worlds.proofs.PlanLemmas.{keeps-setting_text, keeps-splitting, keeps-unsetting_attribute, KeepsNames, kept-after, leads-adopting}
pub use Rattle.dom_worlds.proofs.PlanLemmas.{leads-deleting, leads-extracting, leads-inserting, leads-inserting_into_range, leads-normalizing}
pub use Rattle.dom_worlds.proofs.PlanLemmas.{leads-normalizing_text, leads-removals, leads-removing, leads-replacing, leads-replacing_data}
pub use Rattle.dom_worlds.proofs.PlanLemmas.{leads-setting_attribute, leads-setting_text, leads-splitting, leads-unsetting_attribute, made-joins, MadeIn, MayGo}
pub use Rattle.dom_worlds.proofs.PlanLemmas.{next-absent, next-other, normalizing-needed, own-step, part-step, rules-kept, some-keeps, still, tables-after}
pub use Rattle.dom_worlds.proofs.PlanLemmas.{whole-pieces}
pub use Rattle.dom_worlds.proofs.RangeLemmas.{bounds-of, join_at-keeps, joining-fits, length-replaced, nowhere, queue_record-keeps, room-normalizing_text}
pub use Rattle.dom_worlds.proofs.RangeLemmas.{room-of, room-removals, text-data, total}
pub use Rattle.dom_worlds.proofs.ShadowTreeLemmas.{found-absent, found-there, kind-root, not_taken, shadow-kind}
pub use Rattle.dom_worlds.proofs.TreeLemmas.{index-below, inside-no_ancestor, kids, kids-absent, kids-map_nodes, length-absent, length-children, length-kids}
pub use Rattle.dom_worlds.proofs.TreeLemmas.{NewHas, no_parent-root, node-map_nodes, nodes-listed, nodes-named, nodes-step, nodes-then, nodes-with_node}
pub use Rattle.dom_worlds.proofs.TreeLemmas.{read-all, root-below_none, rooted, roots-equal, roots-same, roots-there, self-above, times-has_node}
pub use Rattle.dom_worlds.proofs.TreeLemmas.{times-map_nodes}
pub use Rattle.dom_worlds.proofs.WorldLemmas.{each-part, Ground, ground-world_step, holds-world_after, IsKeptIn, part-own_step, root-alone}
pub use Rattle.dom_base.specs.Owners.{has_word}
pub use Rattle.dom_laws.specs.Siblings.{from_sibling}
pub use Rattle.dom_mutation.specs.Definitions.{after_telling, all_tables, AllTables, AreFirst, AreHostsOf, AreMadeBehind, AreNodes, AreNumbered}
pub use Rattle.dom_mutation.specs.Definitions.{AreOwnRanges, AreRangesOf, AreReady, AreTablesOf, attached_of, attaching_refusal, change_in}
pub use Rattle.dom_mutation.specs.Definitions.{component_named, Contents, contents, cutting_tail, DocState, document_in, documents_in, DropsNone}
pub use Rattle.dom_mutation.specs.Definitions.{first_tables, forest_in, HasNodes, HasStill, HasStillAll, HasStillTables, host_names, host_owners, hosts_of}
pub use Rattle.dom_mutation.specs.Definitions.{IsAlone, IsAttached, IsChild, IsDoc, IsDue, IsMadeAs, IsOwnIterator, IsOwnNode, IsOwnPart, IsOwnPoint}
pub use Rattle.dom_mutation.specs.Definitions.{IsOwnWalker, IsReadFrom, IsReady, IsReadyPart, IsRuleOf, IsSettled, JoinsFit, KeepsPaths, made, maker_of}
pub use Rattle.dom_mutation.specs.Definitions.{Makes, MakesSaying, MayCome, MayMove, MayStand, name_in, named_trees, NamesNodes, no_slots, none_pending}
pub use Rattle.dom_mutation.specs.Definitions.{NoneAbove, nothing_left, notice_in, notices_of, observing_of, outermost_root, owner_in, part_in, part_with}
pub use Rattle.dom_mutation.specs.Definitions.{placed_all, planned, PlansOwn, putting_text, ranged, SetsOwnDocuments, shadows_in, shown_tables, signal_in}
pub use Rattle.dom_mutation.specs.Definitions.{signals_in, state_from, stepped, Tables, tables_view, tables_with, tables_with_trees, trees_in, trees_with}
pub use Rattle.dom_mutation.specs.Definitions.{with_live, with_observers, with_queue, with_table, with_tasks, world_from, world_of}
pub use Rattle.dom_mutation.specs.Documents.{roots_within, under_each}
pub use Rattle.dom_mutation.specs.Signalled.{AreNames, AreSignals, HasStepped, signals_of}
pub use Rattle.dom_mutation.specs.declared.node_trees.steps.NodeTrees.{NodeTrees}
pub use Rattle.dom_observers.specs.Definitions.{AreAll, change_of, disconnected, emptied, IsChangeAt, IsKey, named_change, named_registration, named_tables}
pub use Rattle.dom_observers.specs.Definitions.{notice_of, observing, path_keys, SpeaksOf, tables_of, TablesOf, with_observer, words_of}
pub use Rattle.dom_ranges.specs.Definitions.{BothEnds, collapsed_range, EachRange, end_set, ends_by, have_one_root, is_inside, is_key_before, IsAtNode}
pub use Rattle.dom_ranges.specs.Definitions.{IsNamedRule, KeepsNodes, named_boundary, named_ends_by, named_range, named_ranges, range_from, range_in, RangeList}
pub use Rattle.dom_ranges.specs.Definitions.{RangeLists, ranges_of, StandAtNodes, start_set, with_ranges}
pub use Rattle.dom_ranges.specs.declared.table.Points.{Points}
pub use Rattle.dom_slots.specs.Definitions.{AreSlotsOf, HasOneMore, host_named, HostsAreNodes, IsShownBy, root_named, root_of_host, shadow_trees, ShadowHost}
pub use Rattle.dom_slots.specs.Definitions.{shadows, ShadowTrees, signals_at, SlotsNow, StandsOnce, step_signals}
pub use Rattle.dom_slots.specs.declared.step.Step.TheVariants.{Attribute, Place, Removal}
pub use Rattle.dom_traversal.specs.Definitions.{AreLeft, cursors_of, EachItem, filter_of, HasLeft, IsIteratorOf, IsLeft, IsWalkerOf, iterator_at, iterator_view}
pub use Rattle.dom_traversal.specs.Definitions.{KeyedIterator, KeyedTables, KeyedWalker, no_keyed_tables, walker_at, walker_view, with_cursors, with_taken_out}
pub use Rattle.dom_tree.specs.Definitions.{AreOf, AreOwned, count_of, err_of, IsOwnChange, IsReadOwn, name_at, NamedTrees, node_from, TellApart, trees_of_owner}
pub use Rattle.dom_tree.specs.declared.data.NodeData.{NodeData}
pub use Rattle.dom_worlds.specs.Definitions.{AllNodes, EndsIn, EndsWithin, HasBounds, HasEnds, HasMakers, HasTables, IsNodeIn, IsPart, IsShadowAt, IsWithin}
pub use Rattle.dom_worlds.specs.Definitions.{needs_normalizing}
