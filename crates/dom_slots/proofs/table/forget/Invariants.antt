use Rattle.dom_base.proofs.Std.{take}
use Rattle.dom_slots.specs.Definitions.{slots_in}
use Rattle.dom_slots.proofs.Mapping.{AreTaken}
use Rattle.dom_slots.proofs.table.forget.Given as goal

abbrev pub invariant-loop-node : goal.invariant-loop-node
invariant-loop-node l = AreTaken (slots_in l.fn.slots) l.slot (take l.node-index l.nodes) (slots_in l.slots)
