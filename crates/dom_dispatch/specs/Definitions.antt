-- What proofs cite of this crate's definitions.
pub use Rattle.dom_dispatch.specs.Dispatches.{AreNumbered, dispatching_in, event_words, HasPathOf, IsDispatched, IsDispatchedAlong, IsDispatchedIn, IsLineAlong}
pub use Rattle.dom_dispatch.specs.Dispatches.{IsOwnLine, IsShownOf, KeepsLines, line_in, paths_of, visit_in}
pub use Rattle.dom_dispatch.specs.Entries.{hears_at, listener_of, listeners_in, NoneHears}
pub use Rattle.dom_dispatch.specs.Kept.{dispatch_along, dispatch_among, DispatchedAlong, DispatchedAmong, HasListeners, is_of_owner}
pub use Rattle.dom_dispatch.specs.ListenersByName.{dispatching_named, IsListenerAt, IsViewOf, line_named, listener_named, visit_named}
pub use Rattle.dom_dispatch.specs.Staying.{AreAtNodes, DispatchedStay, ListenedStay, MoreStay, NoneStay, UnlistenedStay}
pub use Rattle.dom_dispatch.specs.Tables.{entry_at, first_in, HasTypes, IsIndexed, is_noted, is_of_type, listed_under, MayPut, passes, passes_in, picked}
pub use Rattle.dom_dispatch.specs.Tables.{places_at}
pub use Rattle.dom_dispatch.specs.Tables.{places_from, places_in, present, rest_in}
