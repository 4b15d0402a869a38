-- What proofs cite of the small types and of the model: names, trees, slots, ranges, events, commands, worlds and their laws.
pub use Rattle.dom_base.specs.Owners.{longer_path, may_attach, no_path, path_of}
pub use Rattle.dom_base.specs.Refusals.{refusal_word}
pub use Rattle.dom_base.specs.declared.Action.{Action}
pub use Rattle.dom_base.specs.declared.Action.TheVariants.{Cancel, Log, Stop, StopNow}
pub use Rattle.dom_base.specs.declared.Fault.{Fault}
pub use Rattle.dom_base.specs.declared.Fault.TheVariants.{Memory, Refused}
pub use Rattle.dom_base.specs.declared.Kind.{Kind}
pub use Rattle.dom_base.specs.declared.Kind.TheVariants.{Comment, Document, Element, Fragment, Shadow, Text}
pub use Rattle.dom_base.specs.declared.Move.{Move}
pub use Rattle.dom_base.specs.declared.Move.TheVariants.{First, Last, Next, NextSibling, Parent, Previous, PreviousSibling}
pub use Rattle.dom_base.specs.declared.NodeName.{NodeName}
pub use Rattle.dom_base.specs.declared.Owner.{Owner}
pub use Rattle.dom_base.specs.declared.Owner.TheVariants.{Component, Page}
pub use Rattle.dom_base.specs.declared.OwnerPath.{OwnerPath}
pub use Rattle.dom_base.specs.declared.Refusal.{Refusal}
pub use Rattle.dom_base.specs.declared.Refusal.TheVariants.{Busy, Foreign, Hierarchy, IndexSize, InvalidCharacter, Limit, NotFound, NotSupported, Selector}
pub use Rattle.dom_base.specs.declared.Refusal.TheVariants.{Syntax, TypeFault, Unknown, WrongKind}
pub use Rattle.dom_base.specs.declared.TheConstants.{MAX_COMPONENTS, MAX_DEPTH}
pub use Rattle.dom_base.specs.declared.Verdict.{Verdict}
pub use Rattle.dom_base.specs.declared.Verdict.TheVariants.{Reject, Skip}
pub use Rattle.dom_model.proofs.KindLaws.{is_element-is, parent-open}
pub use Rattle.dom_model.proofs.ListOrder.{before-itself, before-less, before-then, before-total, before-turned}
pub use Rattle.dom_model.proofs.ObserverLaws.{none_interested, none_transient, registrations_none}
pub use Rattle.dom_model.proofs.OwnerLaws.{component_made-no_page, component_made-number, component_made-other, depth-made, depth-maker, made_by-is}
pub use Rattle.dom_model.proofs.OwnerLaws.{made_by-made, maker-word, may_attach-from, may_attach-word, name_eq-other, name_eq-same, name_eq-true}
pub use Rattle.dom_model.proofs.OwnerLaws.{name_eq-turned, ne-owner_eq, owner_eq-false, owner_eq-same, owner_eq-true, word-made}
pub use Rattle.dom_model.proofs.OwnerTests.{same_owner}
pub use Rattle.dom_model.proofs.PartLaws.{find-put, find-put-other, owner-part_of, part_of-with_part, part_of-with_part-other}
pub use Rattle.dom_model.proofs.StepLaws.{AllComponents, below-components, Component-IsNoPage, IsApart, IsOther, owner-part_step, part_of-own_step}
pub use Rattle.dom_model.proofs.StepLaws.{part_of-stepped, part_of-stepped-other}
pub use Rattle.dom_model.proofs.TurnLaws.{foreign_is_refused, turn-dispatch_in, turn-ending_turn}
pub use Rattle.dom_model.specs.Changes.{adopt_plan, ◌and_then◌, changing_document, document_below, doing, emptying, has_document, inserting_nodes, insert_plan}
pub use Rattle.dom_model.specs.Changes.{in_turn, making_room, observed, Observing, only_if, placed_nodes, placing, Plan, pre_insert_plan, reference_child}
pub use Rattle.dom_model.specs.Changes.{removal_record, remove_plan, removing_from, replace_plan, setting_attribute, sibling_before, steps_of, suppressed}
pub use Rattle.dom_model.specs.Changes.{telling, unsetting_attribute}
pub use Rattle.dom_model.specs.Command.{adopt, append, assigned, attach, attribute, Command, command, contains, delete, disconnect, dispatch, effect, end_turn}
pub use Rattle.dom_model.specs.Command.{EventWords, extract, Filter, foreign, insert, insert_node, is_command_of, iterator_at, iterator_new, iterator_next}
pub use Rattle.dom_model.specs.Command.{iterator_previous, Line, listen, ListenerWords, matches, micro, NameFilter, names_foreign, new_comment, new_document}
pub use Rattle.dom_model.specs.Command.{new_element, new_fragment, new_text, no_command, nodes_exist, nodes_fit, NodeWord, no_owner, observe, observer}
pub use Rattle.dom_model.specs.Command.{ObserveWords, own, own_refusal, part_refusal, query, range_collapse, range_drop, range_end, range_get, range_new}
pub use Rattle.dom_model.specs.Command.{range_start, range_text, remove, replace, set_data, set_text, Show, split, take, thing_exists, unlisten}
pub use Rattle.dom_model.specs.Command.{unset_attribute, walk, walker_at, walker_new, walker_set}
pub use Rattle.dom_model.specs.CommandNames.{has_range, named}
pub use Rattle.dom_model.specs.CommandRefusals.{has_other_root, limit_on, made_by_insert_node, made_by_text, may_be_host, of_range, past_end, past_limit}
pub use Rattle.dom_model.specs.CommandRefusals.{related_refusal}
pub use Rattle.dom_model.specs.Dispatch.{Dispatched, dispatched, dispatch_in, event_output, is_at_target, visit_of, visits_of, world_visit}
pub use Rattle.dom_model.specs.DocumentMachine.{accepted, attaching, effect_in, finish, first_world, is_busy, new_root, outputs_of, part_with_root, perform}
pub use Rattle.dom_model.specs.DocumentMachine.{refusal, run_command, run_lines, step}
pub use Rattle.dom_model.specs.Effects.{answers, changes, changes_range, collapsed_to, Effect, keeps, makes, moves_iterator, new_document_of, new_iterator}
pub use Rattle.dom_model.specs.Effects.{new_node, new_walker, node_or_null, of_iterator, of_walker, plan_of_range, selectors_of, sets_walker, string_or_null}
pub use Rattle.dom_model.specs.Effects.{tables, with_range}
pub use Rattle.dom_model.specs.Extract.{all_whole, behind_node, both_at, clone, clone_count, clone_part, common_ancestor, cut, cut_end, cut_start, extracting}
pub use Rattle.dom_model.specs.Extract.{◌followed_by◌, is_in_one_data, made_by_extracting, making_below, new_fragment_node, new_place, own_document, Pieces}
pub use Rattle.dom_model.specs.Extract.{pieces_along, pieces_apart, pieces_behind, pieces_in_front, pieces_of, taking, tree_holding, whole}
pub use Rattle.dom_model.specs.Groups.{ends_group_turn, ends_other_turn, family_group, group_outputs, group_run, group_turn, group_without, group_world}
pub use Rattle.dom_model.specs.Groups.{is_in_family, is_inside, is_task_of, KeepsMakers, makers_from, makers_group, outward_in, outward_words, silent_step}
pub use Rattle.dom_model.specs.Groups.{top_owner}
pub use Rattle.dom_model.specs.Isolation.{GroupSeesItsTrace, group_turns_stand, group_turns_stand_from, output_of, PagePartAgrees, PageSeesItsTrace, SameAround}
pub use Rattle.dom_model.specs.Isolation.{SameAroundWhileTurnsStand, SameComponent, SameComponentWhileTurnsStand, SameFamily, SameFamilyWhileTurnsStand}
pub use Rattle.dom_model.specs.Isolation.{SameGroup, SamePage, silent_output, turns_are_closed_from}
pub use Rattle.dom_model.specs.Listeners.{after_action, after_inner_invoke, after_invoke, begun, Dispatching, hears, is_listener, kept_after, line_of, Listener}
pub use Rattle.dom_model.specs.Listeners.{may_cancel, Visit, with_listener_added, with_listener_removed}
pub use Rattle.dom_model.specs.Names.{append_once, begins_name, ComponentName, continues_name, distinct, DomString, first_of, is_digit, is_empty, is_in}
pub use Rattle.dom_model.specs.Names.{is_name, items_after, items_before, last_of, list_eq, name_before, name_eq, node_of, owner_depth, owner_eq, owner_place}
pub use Rattle.dom_model.specs.Names.{text_eq, Word}
unfoldable pub use Rattle.dom_model.specs.Names.{max_depth}
pub use Rattle.dom_model.specs.Observers.{asked_for, asks_for, asks_for_nothing, asks_for_old, copied_from, copied_from_transient, copied_source, fits, fitting}
pub use Rattle.dom_model.specs.Observers.{interested, is_asked_for, is_transient, options_of, record_for, Registration, registrations_on, Source, stems_from}
pub use Rattle.dom_model.specs.Observers.{target_of, transients_for, with_options, without_observer, without_old, without_transients, with_registration}
pub use Rattle.dom_model.specs.Output.{a_component, a_count, a_list, an_iterator, an_observer, a_node, a_range, a_string, a_tree, a_truth, attributes, a_walker}
pub use Rattle.dom_model.specs.Output.{bad_owner, boundaries, Change, character_data, child_list, EventLine, event_seen, micro_ran, nothing, null, Output}
pub use Rattle.dom_model.specs.Output.{recorded, reference, refused, replied, Said, says, Value}
pub use Rattle.dom_model.specs.PageMachine.{first_page, is_page_task, page_attaching, page_effect, page_finish, page_line, page_notify_if, page_of}
pub use Rattle.dom_model.specs.PageMachine.{page_outputs_of, page_outward, page_refusal, PageState, page_step, page_stepped, page_task, page_turn_end, run_page}
pub use Rattle.dom_model.specs.PageMachine.{step_page}
pub use Rattle.dom_model.specs.Part.{empty_part, first_node, next_name, Part, queue_of, range_at}
pub use Rattle.dom_model.specs.Paths.{ends_at, event_parent, event_path, FollowsParents, is_hidden_from, is_node, plain_view, plain_views, retarget}
pub use Rattle.dom_model.specs.Paths.{retarget_related, View, view_at, views, way_up, whole_path, with_slots}
pub use Rattle.dom_model.specs.Place.{Boundary, boundary_place, is_before, list_before, place_from, place_of, same_root}
pub use Rattle.dom_model.specs.RangeOps.{cannot_take_node, cutting_data, deleting, deleting_contents, ending_at, inserting_at, inserting_before}
pub use Rattle.dom_model.specs.RangeOps.{inserting_into_range, insertion_parent, insert_node_refusal, is_comment, outermost_contained, range_text_of}
pub use Rattle.dom_model.specs.RangeOps.{start_reference, text_part}
pub use Rattle.dom_model.specs.Ranges.{after_insert, after_join, after_removal, after_replace_data, after_split, at, boundary_eq, from_to, is_collapsed}
pub use Rattle.dom_model.specs.Ranges.{is_contained, map_ends, Range, with_end, with_start}
pub use Rattle.dom_model.specs.Runs.{answering, quiet, refusing, Run, run_each, run_then, unless_refused}
pub use Rattle.dom_model.specs.SelectorText.{closed_by, drop_while, expect, link, may_stand_quoted, parse_selectors, read_all, read_attribute, read_combinator}
pub use Rattle.dom_model.specs.SelectorText.{read_complex, read_compound, read_compound_of, read_each, Reader, read_link, read_map, read_more, read_name}
pub use Rattle.dom_model.specs.SelectorText.{read_next, read_not, read_one_of, read_part, read_quoted, read_simple, read_test, read_test_of, read_type}
pub use Rattle.dom_model.specs.SelectorText.{read_type_name, read_value, signs, skip_space}
pub use Rattle.dom_model.specs.Selectors.{alone, attribute_passes, AttributeTest, begins, begins_with_dash, child, Combinator, combined_with, Complex}
pub use Rattle.dom_model.specs.Selectors.{complex_matches, compound_matches, CompoundPart, descendant, elements_before, elements_behind, ends, equals}
pub use Rattle.dom_model.specs.Selectors.{first_child, has_word, holds, holds_text, is_not, is_space, joined, last_child, later, next, of_any_type, of_class}
pub use Rattle.dom_model.specs.Selectors.{of_id, of_type, part_matches, query_all, selector_matches, Simple, simple, simple_matches, with_value, words_from}
pub use Rattle.dom_model.specs.Slots.{assigned_nodes, assigned_nodes_changed, has_slot_name, is_assigned_to, is_bare_slot, is_slot_element, other_slots}
pub use Rattle.dom_model.specs.Slots.{own_slots, signals, slot_in, slot_name, slot_of, slots_among, slottable_name, slottables_of, with_signal}
pub use Rattle.dom_model.specs.Steps.{after, interested_in, is_taken, join_at, leave, make, make_room, part_step, place, queue_record, record_in, replace_data}
pub use Rattle.dom_model.specs.Steps.{set_attribute, set_document, set_range, split_at, Step, take_out, told, with_ends}
pub use Rattle.dom_model.specs.TextChanges.{contiguous_texts_after, joining, joins, new_text_node, normalizing, normalizing_text, placing_tail}
pub use Rattle.dom_model.specs.TextChanges.{replacing_all_data, replacing_children, replacing_data, setting_text, splitting}
pub use Rattle.dom_model.specs.Trace.{boundary_host, is_log, is_of, is_page, items_of, line, line_may_stop, may_stop, no_component_stops}
pub use Rattle.dom_model.specs.Trace.{no_component_stops_from, outputs_for, outward, outward_command, outward_dispatch, OutwardEvent, outward_event, outward_of}
pub use Rattle.dom_model.specs.Trace.{owner_of_line, owner_of_output, trace_from, TraceItem, trace_of}
pub use Rattle.dom_model.specs.Traversal.{accepts, adjusted_iterator, answer_at, between, is_reject, is_shown, is_skip, Iterator, iterator_next_node}
pub use Rattle.dom_model.specs.Traversal.{iterator_previous_node, moved_to, nodes_ahead, nodes_passed, rejects, sibling_top, skips, verdict_at, Walker}
pub use Rattle.dom_model.specs.Traversal.{walker_children, walker_move, walker_nodes, walker_parent, walker_siblings, walker_step}
pub use Rattle.dom_model.specs.Tree.{ancestors, Attribute, attribute_value, child_nodes, children_of, descendants, has_data, has_node, inclusive_ancestors}
pub use Rattle.dom_model.specs.Tree.{inclusive_descendants, index_of, is_document, is_element, is_fragment, is_inclusive_ancestor, is_shadow, is_text, kind_of}
pub use Rattle.dom_model.specs.Tree.{length_of, names_of, next_sibling, Node, node_in, nodes, none, no_node, on_top, or_else, parent_of, previous_sibling}
pub use Rattle.dom_model.specs.Tree.{root_of, roots, siblings, subtree, times_in, tree, Trees, trees_below}
pub use Rattle.dom_model.specs.TreeChanges.{attributes_with, attributes_without, change_node, change_subtree, followed_by, is_given, map_nodes, placed}
pub use Rattle.dom_model.specs.TreeChanges.{put_before, put_below, put_root, replaced, taken_out, under_document, with_attribute, with_data_replaced}
pub use Rattle.dom_model.specs.TreeChanges.{with_document, with_name, with_node, without, with_text}
pub use Rattle.dom_model.specs.Turns.{ending_any_turn, ending_other_turn, ending_turn, firing_slotchange, has_other_turn, is_other_component, is_owned_by}
pub use Rattle.dom_model.specs.Turns.{is_page_turn, notified, notified_lines, notifying, opening_turn, records_of, running_task, slotchange, without_signals}
pub use Rattle.dom_model.specs.Validity.{breaks_document, element_count, first_refusal, has_parent, has_text, may_be_inserted, may_be_parent, placing_tests}
pub use Rattle.dom_model.specs.Validity.{pre_insert_refusal, replace_refusal, without_given}
pub use Rattle.dom_model.specs.World.{ancestors_at, component_at, component_made, components_below, find_part, host_above, host_chain, host_of, hosts_from}
pub use Rattle.dom_model.specs.World.{is_connected, is_in_shadow_tree, is_notify_of, is_there, kind_at, made_by, micro_task, node_at, notify_task, parent_at}
pub use Rattle.dom_model.specs.World.{part_of, put_part, queued_notify, root_at, shadow_including_ancestors, shadow_root_of, shadow_tree, some_if, Task}
pub use Rattle.dom_model.specs.World.{trees_with, with_notify, with_part, World}
unfoldable pub use Rattle.dom_model.specs.World.{MayAttach}
pub use Rattle.dom_model.specs.WorldSteps.{stepped, with_notify_if, with_removal_signals, with_shadow_document, with_signals, world_after, world_step}
