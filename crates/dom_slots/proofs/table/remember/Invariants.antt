use Rattle.dom_base.proofs.Std.{take}
use Rattle.dom_slots.specs.Definitions.{slots_in}
use Rattle.dom_slots.proofs.Mapping.{AreGiven}
use Rattle.dom_slots.proofs.table.remember.Given as goal

abbrev pub invariant-loop-node : goal.invariant-loop-node
invariant-loop-node l = AreGiven (slots_in l.fn.slots) l.slot (take l.node-index l.nodes) (slots_in l.slots)
