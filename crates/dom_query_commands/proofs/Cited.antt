-- What the proofs of this crate cite of std, of the definitions, and of the crates below.
pub use Rattle.dom_base.proofs.Std.{[], add-one, AllByRecursion, ap, append-nil, append_assoc, append_cancel_right, arith, Bool, cases_Bool, codes, cond-true}
pub use Rattle.dom_base.proofs.Std.{drop, false, filter, find, find-append, flat_map, ForSome, get_or_from_slice_get, IfOk-weaker, if◌then◌else◌, inl, inr}
pub use Rattle.dom_base.proofs.Std.{is_none, is_some, length, length-append, List, list_all, list_any, map, map-append, None, none-some, not, Ok, OnOk, Option}
pub use Rattle.dom_base.proofs.Std.{option_map, option_map_or, option_or, option_to_list, or_cases, or_left, or_right, refl, same_Some, slice_get}
pub use Rattle.dom_base.proofs.Std.{slice_get_cases, slice_get_within, Some, string_bytes, subst, suc, sym, take, take-suc, take_all, true, true≢false}
pub use Rattle.dom_base.proofs.Std.{unwrap_or, Vec, zero, ℕ, ◌&&◌, ◌++◌, ◌+◌, ◌-◌, ◌<◌, ◌||◌, ◌∙◌, ◌∷◌, ◌≡◌, ◌≤◌, ◌⊎◌}
pub use Rattle.dom_model.proofs.Model.{a_count, a_list, a_tree, a_truth, a_walker, accepted, alone, an_iterator, ancestors_at, answers, asks_for_nothing}
pub use Rattle.dom_model.proofs.Model.{attribute_passes, attribute_value, Change, child, children_of, Combinator, combined_with, Command, Complex}
pub use Rattle.dom_model.proofs.Model.{complex_matches, compound_matches, CompoundPart, descendant, descendants, DomString, effect, elements_before}
pub use Rattle.dom_model.proofs.Model.{elements_behind, equals, Fault, Filter, first_child, first_of, first_refusal, has_word, host_above, hosts_from}
pub use Rattle.dom_model.proofs.Model.{inclusive_ancestors, inclusive_descendants, is_connected, is_document, is_element, is_empty, is_in}
pub use Rattle.dom_model.proofs.Model.{is_inclusive_ancestor, is_not, items_after, items_before, joined, Kind, kind_at, kind_of, last_child, last_of, later}
pub use Rattle.dom_model.proofs.Model.{limit_on, micro_task, name_eq, name_eq-same, name_eq-true, name_eq-turned, named, names_of, new_iterator, new_walker}
pub use Rattle.dom_model.proofs.Model.{next, next_sibling, no_node, Node, node_in, node_of, node_or_null, NodeName, nodes, NodeWord, none, nothing}
pub use Rattle.dom_model.proofs.Model.{notified_lines, of_any_type, of_class, of_id, of_type, of_walker, on_top, opening_turn, options_of, or_else, Output, own}
pub use Rattle.dom_model.proofs.Model.{own_refusal, Owner, owner-part_of, owner_depth, Page, parent_of, parse_selectors, Part, part_matches, part_of, query_all}
pub use Rattle.dom_model.proofs.Model.{queue_of, recorded, records_of, Refusal, Refused, replied, roots, says, Selector, selector_matches, selectors_of}
pub use Rattle.dom_model.proofs.Model.{sets_walker}
pub use Rattle.dom_model.proofs.Model.{siblings, Simple, simple, simple_matches, subtree, Task, text_eq, times_in, tree, Trees, trees_below, with_registration}
pub use Rattle.dom_model.proofs.Model.{with_value, Word, World}
pub use Rattle.dom_admission.proofs.Finding.{key_of, read_at, read_by_key, read_of, told_here}
pub use Rattle.dom_admission.proofs.Handling.{asks, effecting, faults, finished, in_state, keeps, keeps_saying, may_act, one_there, opened-part, passes, reads}
pub use Rattle.dom_admission.proofs.Handling.{refused, thing_there}
pub use Rattle.dom_admission.proofs.OwnRefusals.{lone_passes, lone_refuses}
pub use Rattle.dom_admission.proofs.Refusing.{IsNaming, namings}
pub use Rattle.dom_admission.specs.Turned.{with_turn}
pub use Rattle.dom_admission.specs.declared.admission.Operand.TheVariants.{Any, Element, Observer, Parent, Walker}
pub use Rattle.dom_laws.proofs.Laws.{after-in, before-in, by_times, filter-same, In, In-right, is_in-from, last_split, Once, times-elsewhere, times-here}
pub use Rattle.dom_laws.proofs.Laws.{times-more, times_count, times_in-none, above-parent, from_first, from_next, Has, parent-of_child}
pub use Rattle.dom_model.specs.Selectors.{with_attribute}
pub use Rattle.dom_mutation.specs.Definitions.{change_in, DocState, name_in, notice_in, notices_of, trees_in, with_tasks}
pub use Rattle.dom_base.proofs.Std.{on_ok_weaker}
pub use Rattle.dom_printer.specs.Names.{name_view}
pub use Rattle.dom_printer.specs.Steps.{attribute_view, attributes_in, attributes_view, data_in, shown, shown_as, shown_steps, step_view, steps_view}
pub use Rattle.dom_printer.specs.declared.trees.Attribute.{Attribute}
pub use Rattle.dom_printer.specs.declared.trees.NodeContent.{NodeContent}
pub use Rattle.dom_query_commands.specs.Recorded.{IsNotice, IsRecord, notice_lines, record_lines}
pub use Rattle.dom_query_commands.specs.Requests.{command_of, cursor_count, cursor_new, thing_of}
pub use Rattle.dom_query_commands.specs.declared.cursors.Cursor.{Cursor}
pub use Rattle.dom_query_commands.specs.declared.things.Request.{Request}
pub use Rattle.dom_query_commands.specs.declared.tree_text.Place.{Place}
pub use Rattle.dom_reader.specs.Views.{filter_view, word_view}
pub use Rattle.dom_selectors.specs.Definitions.{IsRefusalWhere, selector_view}
pub use Rattle.dom_text.specs.Definitions.{closes, opens, TreeStep}
pub use Rattle.dom_tree.proofs.Owned.{read_own, stays_own}
pub use Rattle.dom_tree.proofs.Standing.{Once-forest, StandAlone, StandOnce, Has-forest}
pub use Rattle.dom_tree.specs.Definitions.{AreOwned, name_at, NamedTrees, trees_of_owner}
pub use Rattle.dom_laws.specs.Siblings.{from_sibling}
