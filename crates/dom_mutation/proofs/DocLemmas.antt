-- What other crates cite of these lemmas: plans and the state after them, what holds of an owner's part then, and which `Doc` is ready.
pub use Rattle.dom_mutation.proofs.BoundedDocs.{HasBoundedPart, index_limited}
pub use Rattle.dom_mutation.proofs.BoundedPlans.{length_few}
pub use Rattle.dom_mutation.proofs.Made.{made_then, plan_alone, planned_then}
pub use Rattle.dom_mutation.proofs.OwnPlans.{own_moves, own_rules}
pub use Rattle.dom_mutation.proofs.Placed.{Counted, once_in, removal_keeps}
pub use Rattle.dom_mutation.proofs.ReadyCalls.{HasLaws, part-planned, ready-planned, stands-in, stands-then}
pub use Rattle.dom_mutation.proofs.ReadyEnds.{bare, bare-tables}
pub use Rattle.dom_mutation.proofs.ReadyPlans.{KeepReady, ready-deleting, ready-extracting, ready-inserting_into_range}
pub use Rattle.dom_mutation.proofs.StillParts.{keeps-steps}
pub use Rattle.dom_mutation.proofs.Turns.{child_now, Empties, empties_on, may_now, Stays}
