-- What proofs cite of this crate's definitions.
pub use Rattle.dom_slots.specs.Fields.{host_in, hosts_in}
pub use Rattle.dom_slots.specs.Hosts.{host_named, host_of_root, HostsAreNodes, root_named, root_of_host, ShadowHost}
pub use Rattle.dom_slots.specs.Index.{AreIndexed, bearer_at, Bearers, MayHave, name_code}
pub use Rattle.dom_slots.specs.Insides.{AreRight, AreSilent, bare_around, is_called, IsInside, is_slot_called, left_slots, MayMove, MovesCalled, MovesNone}
pub use Rattle.dom_slots.specs.Insides.{IsMoved, is_nothing, own_slots, slots_around, tree_slots}
pub use Rattle.dom_slots.specs.Kept.{AreBare, AreSlotsOf, HasOneMore, Hints, hints_of, IsBare, IsBegun, IsEndOf, SlotsNow, StandsOnce, with_hints, with_parked}
pub use Rattle.dom_slots.specs.KeyMaps.{is_marked, IsSingle, list_at}
pub use Rattle.dom_slots.specs.Lists.{table_from, table_in}
pub use Rattle.dom_slots.specs.NodeSlots.{in_line, slots_at, slots_in}
pub use Rattle.dom_slots.specs.Parked.{IsBeside, IsParked, ParkedNow}
pub use Rattle.dom_slots.specs.Renewals.{AreRenewed, IsButFor, names_but, Renews}
pub use Rattle.dom_slots.specs.Shadows.{assigned_at, assigned_under, is_assigned_at, is_bare_at, is_changed_at, is_first_at, IsShownBy, looks_for, shadows}
pub use Rattle.dom_slots.specs.Shadows.{ShadowTrees, shadow_trees, signalled_by, signals_at, slot_at}
pub use Rattle.dom_slots.specs.Steps.{around_of, is_apart, is_move, is_outside, IsStepFrom, left_by, StepHasNodes, step_node, step_signals}
pub use Rattle.dom_slots.specs.Tables.{IsTableOf, list_of, SlotTable}
pub use Rattle.dom_slots.specs.Waiting.{is_wanted, Serves, waiting_under}
