-- What the proofs of this crate cite of std, of the definitions, and of the crates below.
pub use Rattle.dom_base.proofs.Std.{[], All, All-cons, AllByRecursion, and_parts, any-filter_same, ap, append-nil, append_assoc, arith, beq, Bool, common_steps}
pub use Rattle.dom_base.proofs.Std.{cond-false, cond-true, drop, Err, err_from_is_err_and, false, filter, filter-append, filter_map, flat_map, fold, ForSome}
pub use Rattle.dom_base.proofs.Std.{get_or-append_seam, get_or-take, if◌then◌else◌, is_some, IsErrAnd, length, length-take, List, list_any, map, min, nat_eq}
pub use Rattle.dom_base.proofs.Std.{None, none-some, not, Ok, OnOk, Option, option_and_then, option_map, option_map_or, option_or, option_to_list, position}
pub use Rattle.dom_base.proofs.Std.{refl, Result, reverse, rules, same_Some, slice_get, slice_get_past, Some, subst, suc, sym, take, true}
pub use Rattle.dom_base.proofs.Std.{true≢false, unwrap_or, zero, ℕ, ◌&&◌, ◌++◌, ◌<◌, ◌||◌, ◌∙◌, ◌∷◌, ◌≡◌, ◌≢◌, ◌≤◌}
pub use Rattle.dom_admission.proofs.Finding.{key_of, owner-named, read_at}
pub use Rattle.dom_admission.proofs.Handling.{faults, Joins, may_act, MayAct, opened-part, opened-there, plans, refused, tells, thing_there, with_part-same}
pub use Rattle.dom_admission.proofs.OwnRefusals.{lone_passes, lone_refuses, none_stopped, refuses}
pub use Rattle.dom_admission.proofs.Refusing.{IsNaming, namings, refusal-naming}
pub use Rattle.dom_admission.specs.Handled.{BeginsWith, IsDone, IsHandled, KeepsNames, let_pass}
pub use Rattle.dom_admission.specs.declared.admission.Operand.{Operand}
pub use Rattle.dom_admission.specs.declared.admission.Operand.TheVariants.{Any, Range}
pub use Rattle.dom_commands.specs.CommandGroups.{is_plain}
pub use Rattle.dom_commands.specs.Machine.{AreAtNodes, AreThere, IsAtRest, KeepsListeners, line_shown, machine_now, MachineNow, NamesNodes, path_named}
pub use Rattle.dom_commands.specs.RangeWorlds.{HasFirstNodes}
pub use Rattle.dom_commands.specs.WithListeners.{heard, hearing, own_listeners}
pub use Rattle.dom_dispatch.proofs.Naming.{listened-named, unlistened-named}
pub use Rattle.dom_dispatch.proofs.Narrowing.{filter-wider}
pub use Rattle.dom_dispatch.specs.Definitions.{AreNumbered, event_words, HasListeners, HasPathOf, is_of_owner, IsDispatchedAlong, IsDispatchedIn, IsListenerAt}
pub use Rattle.dom_dispatch.specs.Definitions.{line_in, line_named, listener_named}
pub use Rattle.dom_dispatch.specs.declared.event.LogLine.{LogLine}
pub use Rattle.dom_dispatch.specs.declared.event.Outcome.{Outcome}
pub use Rattle.dom_microtasks.specs.Tasks.{task_of}
pub use Rattle.dom_mutation.specs.Definitions.{DocState, made, Makes}
pub use Rattle.dom_path.specs.Definitions.{IsWorldOf, ShowsNodes}
pub use Rattle.dom_range_ops.specs.Definitions.{inserting_node, inserting_refusal, new_names}
pub use Rattle.dom_reader.specs.Views.{command_view, event_view, listener_view, refused_view, word_view}
pub use Rattle.dom_reader.specs.declared.line.NodeWord.{NodeWord}
pub use Rattle.dom_slots.proofs.Hosted.{key-test}
pub use Rattle.dom_slots.specs.Definitions.{IsShownBy, ShadowHost, shadows, ShadowTrees}
pub use Rattle.dom_tree.proofs.Owned.{read_own}
pub use Rattle.dom_tree.specs.Definitions.{name_at, NamedTrees, TellApart}
pub use Rattle.dom_worlds.proofs.CommandLemmas.{accepted-facts, attach-may}
pub use Rattle.dom_worlds.proofs.ListLemmas.{all-append, all-filter, all-map, all-reverse, all-then, by_cases, either_way, filter-filter, which_way}
pub use Rattle.dom_worlds.proofs.OwnerLemmas.{AreOnce, has_owner, host_of-made, host_of-same, once-in, owners-put, people-dispatch, there-listed}
pub use Rattle.dom_worlds.proofs.OwnerLemmas.{there-with_part}
pub use Rattle.dom_worlds.proofs.TurnLemmas.{at_end-stands, dispatch-stands, part_of-visits, rest-visits, Stands, stays-running, told-stands}
pub use Rattle.dom_worlds.proofs.WorldLemmas.{attached-are_there, each-part, first-is_bounded, first-is_reached, first-is_whole, step-keeps_bounds}
pub use Rattle.dom_worlds.proofs.WorldLemmas.{step-keeps_reached, step-keeps_whole}
pub use Rattle.dom_worlds.specs.Definitions.{HasBounds, IsBounded, IsNodeIn, IsReached, IsThere, IsWhole, owners_in, task_owner}
