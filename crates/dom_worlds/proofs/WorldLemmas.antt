-- What other crates cite of worlds: what the first one has, and what steps, lines and scripts keep.
pub use Rattle.dom_worlds.proofs.StepKeeps.{quiet-first, quiet-step}
pub use Rattle.dom_worlds.proofs.WorldSteps.{HoldsIn, IsKeptIn, holds-with_part, holds-world_after, attached-with_part, turn-world_after}
pub use Rattle.dom_worlds.proofs.TableWorlds.{Ground, each-part, ground-stepped, ground-world_step, part-own_step}
pub use Rattle.dom_worlds.proofs.TableLines.{ending-keeps_whole, first-is_whole, step-keeps_whole}
pub use Rattle.dom_worlds.proofs.BoundWorlds.{first-is_bounded, step-keeps_bounds}
pub use Rattle.dom_worlds.proofs.Reached.{ending-keeps_reached, first-is_reached, sound, step-keeps_reached, attached-are_there}
pub use Rattle.dom_worlds.proofs.Reached.{root-alone, shadow_roots-are_roots}
