-- The slots of notifications stay there.
use Rattle.dom_base.proofs.Std.{List, AllByRecursion}
use Rattle.dom_model.specs.World.{World}
use Rattle.dom_worlds.proofs.ListLemmas.{all-then}
use Rattle.dom_callbacks.specs.declared.frames.Frame.{Frame}
use Rattle.dom_callbacks.specs.declared.frames.Frame.TheVariants as frames
use Rattle.dom_callbacks.specs.States.{IsNode, KeepsNodes, HasSlots}

-- where the nodes stay, a frame's slots do
pub slots-stay : (v w : World) → KeepsNodes v w → (f : Frame) → HasSlots v f → HasSlots w f
slots-stay v w k (frames.Event u) h = tt
slots-stay v w k (frames.Notification n) h = all-then (IsNode v) (IsNode w) k n.slots.items h
slots-stay v w k (frames.Microtask o) h = tt
slots-stay v w k (frames.Checkpoint c) h = tt

-- and so do those of all frames
pub all-stay : (v w : World) → KeepsNodes v w → (fs : List Frame) → AllByRecursion (HasSlots v) fs → AllByRecursion (HasSlots w) fs
all-stay v w k fs h = all-then (HasSlots v) (HasSlots w) (slots-stay v w k) fs h
