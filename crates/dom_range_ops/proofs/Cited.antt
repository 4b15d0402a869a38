-- What the proofs of this crate cite of std, of the definitions, and of the crates below.
pub use Rattle.dom_base.proofs.Std.{[], add-one, AllByRecursion, and_parts, ap, append-nil, append_assoc, arith, Bool, bytes_eq, cases_Bool, cases_lt}
pub use Rattle.dom_base.proofs.Std.{cond-false, cond-true, drop, drop-cons, eq-eqb, eqb, eqb-true, Err, false, false_from_ne_true, filter, filter-append, find}
pub use Rattle.dom_base.proofs.Std.{flat_map, flat_map-append, flat_map-cons, ForSome, get_or, get_or-append, get_or-append_seam, get_or_default_zero, IfErr}
pub use Rattle.dom_base.proofs.Std.{IfOk, if◌then◌else◌, inl, inr, is_some, IsTrue, last_or, le-leb, le-ltb, length, length-append, length-drop, length-map}
pub use Rattle.dom_base.proofs.Std.{length-take, length-take-le, List, lt-leb, lt-ltb, ltb-false, ltb-true, map, map-append, map_push, None, none-some, not, Ok}
pub use Rattle.dom_base.proofs.Std.{on_ok_weaker, Option, option_copied, option_flatten, option_map, option_map_or, option_or, option_to_list, refl, Result}
pub use Rattle.dom_base.proofs.Std.{reverse, reverse-append, same_Some, slice_get, slice_range, Some, string_bytes, string_eq, subst, suc, sym, take, take_all}
pub use Rattle.dom_base.proofs.Std.{take-append-drop, take-suc, take_more, true, true≢false, unwrap_or, zero, ℕ, ⊤, ◌&&◌, ◌++◌, ◌+◌, ◌-◌, ◌<◌, ◌==◌, ◌↔◌, ◌∙◌}
pub use Rattle.dom_base.proofs.Std.{◌∷◌, ◌≡◌, ◌≤◌, ◌⊎◌}
pub use Rattle.dom_model.proofs.Model.{after, all_whole, at, Attribute, attributes_with, before-less, before-turned, behind_node, both_at, boundaries}
pub use Rattle.dom_model.proofs.Model.{Boundary, boundary_place, cannot_take_node, Change, child_nodes, children_of, clone, clone_count, clone_part}
pub use Rattle.dom_model.proofs.Model.{Command, common_ancestor, cut, cut_end, cut_start, cutting_data, deleting, deleting_contents, doing, Effect}
pub use Rattle.dom_model.proofs.Model.{effect, ending_at, extracting, Fault, first_of, first_refusal, from_to, has_data, has_node, has_parent}
pub use Rattle.dom_model.proofs.Model.{Hierarchy, in_turn, inclusive_ancestors, inclusive_descendants, index_of, insert_node_refusal, insert_plan}
pub use Rattle.dom_model.proofs.Model.{inserting_at, inserting_before, inserting_into_range, insertion_parent, is_before, is_collapsed, is_contained}
pub use Rattle.dom_model.proofs.Model.{is_document, is_in, is_in_one_data, is_inclusive_ancestor, is_shadow, is_text, is_there, items_after}
pub use Rattle.dom_model.proofs.Model.{items_before, Kind, kind_of, last_of, length_of, Limit, limit_on, made_by_extracting, made_by_insert_node, make}
pub use Rattle.dom_model.proofs.Model.{making_below, making_room, may_be_parent, Memory, name_eq, name_eq-other, name_eq-same, name_eq-true}
pub use Rattle.dom_model.proofs.Model.{name_eq-turned, names_of, new_fragment_node, new_place, next_name, next_sibling, Node, node_in, node_of}
pub use Rattle.dom_model.proofs.Model.{NodeName, nodes, none, NotFound, observed, Observing, of_range, outermost_contained, own_document, Owner}
pub use Rattle.dom_model.proofs.Model.{owner-part_of, Page, parent_of, Part, part_of, part_step, past_limit, Pieces, pieces_along, pieces_apart}
pub use Rattle.dom_model.proofs.Model.{pieces_behind, pieces_in_front, pieces_of, place_of, placing, placing_tests, Plan, plan_of_range}
pub use Rattle.dom_model.proofs.Model.{pre_insert_refusal, Range, range_at, range_text_of, reference_child, Refusal, Refused, remove_plan}
pub use Rattle.dom_model.proofs.Model.{replacing_data, root_of, roots, same_root, set_range, Shadow, siblings, splitting, start_reference, Step}
pub use Rattle.dom_model.proofs.Model.{steps_of, subtree, take_out, taking, text_eq, text_part, times_in, tree, tree_holding, Trees, trees_below, whole}
pub use Rattle.dom_model.proofs.Model.{with_name, World, world_after, ◌and_then◌, ◌followed_by◌}
pub use Rattle.dom_attributes.proofs.Attributes.{attributes_in, insert-attributes}
pub use Rattle.dom_attributes.specs.Attributes.{attribute_from, HaveOwnNames}
pub use Rattle.dom_laws.proofs.Laws.{above-along, above-below, above-beside, above-from_below, above-here, above-parent, above-present, above-root, above-split}
pub use Rattle.dom_laws.proofs.Laws.{after-in, after-split, all_single, before-split, below, below-from_above, child-of_parent, child_places, children-single}
pub use Rattle.dom_laws.proofs.Laws.{filter-all, filter-no, filter-none, filter-same, filter-yes, first_split, Has, Has-above, Has-names, Has-root, Has-subtree}
pub use Rattle.dom_laws.proofs.Laws.{here, In, In-from, In-left, In-names, In-not, In-parts, In-right, inside-test, is_in-from, is_in-not, IsWithin, joined}
pub use Rattle.dom_laws.proofs.Laws.{Lacks, lacks_from, lacks_to, last_of-end, last_split, name_eq-from, names-tree, no_first, no_last, Once, once_apart}
pub use Rattle.dom_laws.proofs.Laws.{once_below, once_subtree, parent-of_child, parent_path, same_or_not, Single, Single-apart, Single-right, split_at, splits}
pub use Rattle.dom_laws.proofs.Laws.{stands_in, subtree-below, subtree-beside, subtree-here, subtree-present, subtree-within, times_subtree, top_places}
pub use Rattle.dom_laws.proofs.Laws.{was_some, within-child, within-itself, within-parent, within-root}
pub use Rattle.dom_laws.specs.Within.{ahead_of, behind, beyond, from_node}
pub use Rattle.dom_model.specs.Extract.{nothing}
pub use Rattle.dom_mutation.proofs.DocLemmas.{bare, bare-tables, child_now, Counted, Empties, empties_on, HasBoundedPart, HasLaws, index_limited, KeepReady}
pub use Rattle.dom_mutation.proofs.DocLemmas.{keeps-steps, length_few, made_then, may_now, once_in, own_moves, own_rules, part-planned, plan_alone}
pub use Rattle.dom_mutation.proofs.DocLemmas.{planned_then, ready-deleting, ready-extracting, ready-inserting_into_range, ready-planned, removal_keeps}
pub use Rattle.dom_mutation.proofs.DocLemmas.{stands-in, stands-then, Stays}
pub use Rattle.dom_mutation.specs.Definitions.{AreReady, DocState, HoldsNode, IsAlone, IsChild, IsOwnNode, IsReadyPart, made, MayMove, name_in, owner_in}
pub use Rattle.dom_mutation.specs.Definitions.{planned, PlansOwn, stepped, trees_in}
pub use Rattle.dom_range_ops.specs.Definitions.{Adds, AreEnds, AreItems, AreLeaves, ArePaths, AreSpanned, clone_item, clones_after, contained_text, cut_item}
pub use Rattle.dom_range_ops.specs.Definitions.{cutting, end_item, end_items, EndAlike, extracting_items, first_behind, first_from, from_sibling, HasPaths}
pub use Rattle.dom_range_ops.specs.Definitions.{heads, inserting_before_tail, inserting_node, inserting_refusal, IsCopyOf, IsOfPoints, IsPieceIn, IsPieceOf}
pub use Rattle.dom_range_ops.specs.Definitions.{IsRangeIn, IsTaken, IsTaker, Item, item_in, items_of, made_by, MayBeTaken, MayTake, names_in, new_names}
pub use Rattle.dom_range_ops.specs.Definitions.{node_refusal, nodes_around, offset_behind, range_at_points, ShadowRootsHaveNoParent, side_items, tails}
pub use Rattle.dom_range_ops.specs.Definitions.{TakesNew, taking_item, taking_items, text_among, top_of, tree_text, up_to, whole_item, whole_key, whole_keys}
pub use Rattle.dom_range_ops.specs.Definitions.{wholes, wholes_if}
pub use Rattle.dom_range_ops.specs.declared.pieces.Piece.{Piece}
pub use Rattle.dom_range_ops.specs.declared.pieces.Piece.TheVariants.{Clone, Cut, End, Whole}
pub use Rattle.dom_ranges.proofs.Before.{before-beside, before-down, before-same, before-up}
pub use Rattle.dom_ranges.proofs.OwnOrder.{has_own, has_owner, is_before-own, same_root-own}
pub use Rattle.dom_ranges.proofs.Places.{known, path-child, path-tree, place-at_root, place-same}
pub use Rattle.dom_ranges.specs.declared.table.Points.{Points}
pub use Rattle.dom_slots.proofs.Siblings.{from-next, from_item}
pub use Rattle.dom_tree.proofs.Changes.{slice_get-pushed}
pub use Rattle.dom_tree.proofs.Owned.{own_trees, read_own, stays_own}
pub use Rattle.dom_tree.proofs.Standing.{Has-forest, Once-forest, once_own, StandAlone, StandOnce}
pub use Rattle.dom_tree.specs.Definitions.{AreOwned, err_of, name_at, NamedTrees, node_from, StandsIn, TellApart, trees_of_owner}
pub use Rattle.dom_tree.specs.declared.data.NodeData.{NodeData}
pub use Rattle.dom_worlds.proofs.CommandLemmas.{has_node-times, insertion-tested, next-test, IsPlaceable}
pub use Rattle.dom_worlds.proofs.ListLemmas.{all-append, all-then, by_cases, all-from}
pub use Rattle.dom_worlds.proofs.PlanLemmas.{AllWhole, AreFit, AreMoved, Changed, HasNode, IfSome, IsClonable, Leads, MayGo, OldIn, after-append}
pub use Rattle.dom_worlds.proofs.PlanLemmas.{all-get, common_below, count-step, ends-at, fit-apart, fit-pieces, keeps-and_then, keeps-each}
pub use Rattle.dom_worlds.proofs.PlanLemmas.{keeps-inserting, keeps-removing, keeps-replacing_data, keeps-splitting, kept-after, leads-eased}
pub use Rattle.dom_worlds.proofs.PlanLemmas.{leads-inserting, leads-making_below, leads-nothing, leads-one, leads-removing, leads-replacing_data}
pub use Rattle.dom_worlds.proofs.PlanLemmas.{leads-splitting, leads-then, new-may, new-there, next-absent, old-may, old-still, old-there, still}
pub use Rattle.dom_worlds.proofs.PlanLemmas.{whole-pieces, keeps-making_below, keeps-cutting_data, keeps-deleting_contents}
pub use Rattle.dom_worlds.proofs.RangeLemmas.{child-there_in, common-read, data-keeps, insertion-keeps, make-keeps, tail-child}
pub use Rattle.dom_worlds.proofs.ShadowTreeLemmas.{not_taken}
pub use Rattle.dom_worlds.proofs.TreeLemmas.{ancestor-inside, child-parent, children-childs, inside-no_ancestor, no_parent-root, node-new, nodes-named}
pub use Rattle.dom_worlds.proofs.TreeLemmas.{nodes-then, root-below_none, times-below, times-has_node}
pub use Rattle.dom_worlds.specs.Definitions.{EndsIn, EndsWithin, HasBounds, HasEnds, IsPart}
pub use Rattle.indexmap.specs.IndexMap.{insert_entry}
