-- What other crates cite of owners, hosts, and who is there.
pub use Rattle.dom_worlds.proofs.Owners.{component-host, component-made, component-maker, host_of-made, hosted, hosted-is, hosted-maker, hosted-owned, AreOnce}
pub use Rattle.dom_worlds.proofs.Owners.{has_owner, once-in, owner-named, owners-put, there-listed}
pub use Rattle.dom_worlds.proofs.Turns.{AreAlike, host_of-same, there-with_part, world-alike}
pub use Rattle.dom_worlds.proofs.OwnerSteps.{people-dispatch}
