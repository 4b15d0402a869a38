-- What other crates cite of visits, notifications, the ends of turns, and what comes before a line.
pub use Rattle.dom_worlds.proofs.Turns.{Going, InWorld, call-of, logs-visit, no_call, part_of-visits, rest-visits, sifted-after_action, with_listeners, at_end}
pub use Rattle.dom_worlds.proofs.Turns.{quiet-at_end, quiet-dispatch, quiet-ending_turn, quiet-running, quiet-told, there-visits, told_in, IsPageTime}
pub use Rattle.dom_worlds.proofs.Turns.{opening-page, page_time, part_of-opening, quiet-ending_other, quiet-opening}
pub use Rattle.dom_worlds.proofs.Invariants.{stays-running}
pub use Rattle.dom_worlds.proofs.ShadowTrees.{page_in_no_tree, page_tasks-queued_other, signals-foreign}
pub use Rattle.dom_worlds.proofs.TableLines.{after-visit}
pub use Rattle.dom_worlds.proofs.BoundWorlds.{Stands, at_end-stands, dispatch-stands, told-stands}
unfoldable pub use Rattle.dom_worlds.proofs.Turns.{call}
