-- What the proofs of this crate cite of std, of the definitions, and of the crates below.
pub use Rattle.dom_base.proofs.Std.{and-false, and-true, and_from, eqb_tells, false≢true, find, find-append, Global, get_or-set_other, get_or_append_left}
pub use Rattle.dom_base.proofs.Std.{IfSome, inl, inr, length-set}
pub use Rattle.dom_base.proofs.Std.{IsSome, ne_eqb, none-some, on_err_weaker, option_or, set, slice_get_cases, unwrap_or, unwrap_or-slice_get, Vec, ◌⊎◌}
pub use Rattle.dom_base.proofs.Std.{[], AllByRecursion, and_left, and_parts, any-filter_same, ap, append-nil, append_assoc, arith, beq, Bool, bytes_eq}
pub use Rattle.dom_base.proofs.Std.{bytes_eq-Decides, common_steps, cond, cond-false, cond-true, cons_option, drop, drop-cons, eqb-true, Err}
pub use Rattle.dom_base.proofs.Std.{false, filter, filter-append, filter_map, filter_map-append, filter_more, filter_same, fold, fold-append, get_or}
pub use Rattle.dom_base.proofs.Std.{get_or_from_slice_get, IfOk-weaker, if◌then◌else◌, is_some, length, length-append, length_push, List}
pub use Rattle.dom_base.proofs.Std.{list_any, list_any-append, map, map-append, nat_eq, None, not, Ok, on_ok_weaker, OnErr, OnOk, Option, option_flatten}
pub use Rattle.dom_base.proofs.Std.{option_map, option_map_or, or-false, or-true, refl, remove, Result, reverse, reverse-append, rules, set-append_seam}
pub use Rattle.dom_base.proofs.Std.{slice_get, slice_get-get_or, slice_get-map, slice_get_within, slice_index_or, slice_set, Some, string_bytes, subst, suc}
pub use Rattle.dom_base.proofs.Std.{sym, take, take_all, take_more, tests, true, true≢false, zero, ℕ, ◌&&◌, ◌++◌, ◌+◌, ◌-◌, ◌<◌, ◌||◌, ◌∙◌, ◌∷◌, ◌≡◌, ◌≢◌, ◌≤◌}
pub use Rattle.dom_model.proofs.Model.{Action, after_action, after_inner_invoke, after_invoke, begun, Dispatching, event_output, EventLine, EventWords}
pub use Rattle.dom_model.proofs.Model.{hears, is_at_target, is_listener, kept_after, line_of, Listener, ListenerWords, Log, may_cancel, name_eq}
pub use Rattle.dom_model.proofs.Model.{ne-owner_eq, NodeName, Owner, owner-part_of, owner_eq, owner_eq-same, owner_eq-true, Part, part_of}
pub use Rattle.dom_model.proofs.Model.{part_of-with_part, part_of-with_part-other, text_eq, View, views, Visit, visit_of, visits_of}
pub use Rattle.dom_model.proofs.Model.{with_listener_added, with_listener_removed, with_part, Word, World, world_visit}
pub use Rattle.dom_attributes.proofs.Attributes.{differ, text_test}
pub use Rattle.dom_dispatch.specs.Definitions.{AreAtNodes, dispatch_along, dispatch_among, DispatchedAlong, DispatchedAmong, DispatchedStay, dispatching_in}
pub use Rattle.dom_dispatch.specs.Definitions.{dispatching_named, entry_at, event_words, HasPathOf, HasTypes, hears_at, first_in, is_noted, is_of_type}
pub use Rattle.dom_dispatch.specs.Definitions.{is_of_owner, IsDispatched, IsDispatchedIn, IsIndexed, IsLineAlong, IsListenerAt, IsOwnLine, IsShownOf, IsViewOf}
pub use Rattle.dom_dispatch.specs.Definitions.{KeepsLines, line_in, listed_under, line_named, ListenedStay, listener_named, listener_of, listeners_in}
pub use Rattle.dom_dispatch.specs.Definitions.{MoreStay, NoneHears}
pub use Rattle.dom_dispatch.specs.Definitions.{MayPut, NoneStay, passes, passes_in, paths_of, picked, places_at, places_from, places_in, present, rest_in}
pub use Rattle.dom_dispatch.specs.Definitions.{UnlistenedStay, visit_in, visit_named}
pub use Rattle.dom_dispatch.specs.declared.event.LogLine.{LogLine}
pub use Rattle.dom_dispatch.specs.declared.event.Outcome.{Outcome}
pub use Rattle.dom_dispatch.specs.declared.listeners.Entry.{Entry}
pub use Rattle.dom_dispatch.specs.declared.place_list.PlaceList.{PlaceList}
pub use Rattle.dom_dispatch.specs.declared.places.Places.{Places}
pub use Rattle.dom_dispatch.specs.declared.types.Types.{Types}
pub use Rattle.dom_path.specs.Definitions.{ShowsNodes, view_in, view_named}
pub use Rattle.dom_path.specs.declared.item.Item.{Item}
pub use Rattle.dom_path.specs.declared.trees.Tree.{Tree}
pub use Rattle.dom_slots.proofs.Hosted.{key-test}
pub use Rattle.dom_slots.specs.Definitions.{ShadowHost}
pub use Rattle.std.proofs.lemmas.Map.Text.{btree_map_updates_text, btree_set_updates_text}
pub use Rattle.std.specs.Prelude.{String}
pub use Rattle.dom_tree.specs.Definitions.{name_at, NamedTrees, TellApart}
pub use Rattle.dom_worlds.proofs.ListLemmas.{all-append, all-filter, all-passed, all-reverse, all-then, by_cases, filter-filter, filter-map}
