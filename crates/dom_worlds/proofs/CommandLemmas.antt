-- What other crates cite of accepted commands, and what one does to its owner's part.
pub use Rattle.dom_worlds.proofs.Effects.{accepted-facts, attach-may, next-test, part-accepted, KeepsBase, base-effect, Makes, MayDo, made-effect}
pub use Rattle.dom_worlds.proofs.Placings.{IsPlaceable, insertion-tested, replacement-tested}
pub use Rattle.dom_worlds.proofs.KindLines.{absent-any, has_node-times}
pub use Rattle.dom_worlds.proofs.PartSteps.{count-grows, fragment-no_shadow, name-node_in, node-read}
pub use Rattle.dom_worlds.proofs.TableCommands.{Holds}
pub use Rattle.dom_worlds.proofs.TableRegisters.{holds-effect, parent-of_range}
pub use Rattle.dom_worlds.proofs.TableCommands.{ends-with_start, ends-with_end, ends-collapsed}
