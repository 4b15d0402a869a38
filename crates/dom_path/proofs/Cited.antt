-- What the proofs of this crate cite of std, of the definitions, and of the crates below.
pub use Rattle.dom_base.proofs.Std.{[], AllByRecursion, ap, append-nil, append_assoc, arith, Bool, both_ways, cases_Bool, cond-false, cond-true, drop, Err}
pub use Rattle.dom_base.proofs.Std.{false, filter, find, flat_map, ForSome, Global, IfOk, if◌then◌else◌, inl, inr, is_some, IsTrue, length, length-append, List}
pub use Rattle.dom_base.proofs.Std.{map, nat_eq, None, not, Ok, Option, option_and_then, option_map, option_map_or, option_or, option_to_list, refl, Result}
pub use Rattle.dom_base.proofs.Std.{slice_get, slice_get_read, slice_get_within, slice_index_or, Some, subst, suc, sym, take, take_while, take_while-cons, true}
pub use Rattle.dom_base.proofs.Std.{true≢false, unwrap_or, Vec, zero, ℕ, ⊤, ◌&&◌, ◌++◌, ◌+◌, ◌-◌, ◌<◌, ◌^◌, ◌||◌, ◌∙◌, ◌∷◌, ◌≡◌, ◌≤◌, or_left, or_right}
pub use Rattle.dom_model.proofs.Model.{component_at, depth-maker, DomString, event_parent, event_path, first_of, FollowsParents, has_node}
pub use Rattle.dom_model.proofs.Model.{has_slot_name, host_above, host_chain, inclusive_ancestors, is_assigned_to, is_hidden_from, is_in, is_node}
pub use Rattle.dom_model.proofs.Model.{is_shadow, kind_at, max_depth, name_eq, name_eq-same, name_eq-true, names_of, Node, node_in, NodeName, nodes}
pub use Rattle.dom_model.proofs.Model.{Owner, owner_depth, parent_at, parent_of, retarget, retarget_related, root_at, root_of, shadow_root_of, slot_in}
pub use Rattle.dom_model.proofs.Model.{slot_of, slottable_name, subtree, Trees, View, view_at, views, whole_path, World}
pub use Rattle.dom_laws.proofs.Laws.{above-parent, above-present, Has, Has-names, Has-subtree, In, name_eq-from, Once}
pub use Rattle.dom_path.specs.Definitions.{AreApart, AreAttached, AreNested, AreTrees, chain_at, ends_at, ends_before, EndsWithin, event_parent_at}
pub use Rattle.dom_path.specs.Definitions.{FollowsUp, GoesOn, GoesOut, GoesUp, Grows, HasNodes, HasTreeNodes, hiding_host, host_above_at, is_empty_at}
pub use Rattle.dom_path.specs.Definitions.{is_hidden_at, is_hidden_item, is_key, is_silent, IsAround, IsAttached, IsBuilt, IsEvent, IsHosted, IsItemOf}
pub use Rattle.dom_path.specs.Definitions.{IsNested, IsPath, IsPathNode, IsPathShown, IsSlotBelow, IsTrail, IsTree, IsTreeOf, IsWay, IsWorldOf, item_at}
pub use Rattle.dom_path.specs.Definitions.{item_from, item_named, items_along, items_at, key_if, next_at, next_name, outer_of, path_item, path_items}
pub use Rattle.dom_path.specs.Definitions.{PathItem, related_at, related_from, related_name, roots_around, roots_up, seen_at, seen_from, seen_of}
pub use Rattle.dom_path.specs.Definitions.{seen_up, shown_nodes, ShowsNodes, unless_ended, view_in, view_named, view_of}
pub use Rattle.dom_path.specs.declared.item.Item.{Item}
pub use Rattle.dom_path.specs.declared.path_node.PathNode.{PathNode}
pub use Rattle.dom_path.specs.declared.path_node.SlotBelow.{SlotBelow}
pub use Rattle.dom_path.specs.declared.trees.Tree.{Tree}
pub use Rattle.dom_slots.proofs.Hosted.{found-test, host-named, host-node, is_some-named, key-test, root-named, root-node, slot-no_root}
pub use Rattle.dom_slots.proofs.Rooted.{root-alone, root-below, root-parent}
pub use Rattle.dom_slots.proofs.Shown.{slot-shown, parent-shown, node-shown, root-shown, host-shown}
pub use Rattle.dom_slots.specs.Definitions.{host_named, HostsAreNodes, is_assigned_at, IsShownBy, root_named, ShadowHost, shadows, ShadowTrees, slot_at}
pub use Rattle.dom_tree.proofs.Changes.{slice_get-pushed}
pub use Rattle.dom_tree.proofs.Owned.{read_own, stays_own}
pub use Rattle.dom_tree.proofs.Standing.{Has-forest, Once-forest}
pub use Rattle.dom_tree.specs.Definitions.{name_at, NamedTrees, TellApart}
pub use Rattle.dom_worlds.proofs.ListLemmas.{by_cases}
pub use Rattle.dom_worlds.proofs.OwnerLemmas.{component-host, hosted, hosted-is, hosted-maker, hosted-owned}
pub use Rattle.dom_worlds.proofs.ShadowTreeLemmas.{above-host, below-host, chain-below, hidden-by_chain, hosts-alone, path-follows_parents, shadow-name}
pub use Rattle.dom_worlds.proofs.WorldLemmas.{shadow_roots-are_roots}
pub use Rattle.dom_worlds.specs.Definitions.{IsNodeAt}
pub use Rattle.node_arena.proofs.Numbers.{slice_get-push}
