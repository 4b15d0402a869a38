use Rattle.dom_commands.proofs.Cited.{◌≡◌, drop, map, name_at, IsAtRest}
use Rattle.dom_model.proofs.Model.{firing_slotchange}
use Rattle.dom_commands.proofs.Closing.{Ran}
use Rattle.dom_commands.proofs.machine.Machine.signal_slots.Given as goal

abbrev pub invariant-loop-slot : goal.invariant-loop-slot
invariant-loop-slot g l =
    Ran g.A.Answers.adds firing_slotchange l.initial.self.world l.self.world (map (name_at l.initial.self.names) l.slots)
    (map (name_at l.initial.self.names) (drop l.slot-index l.slots)) l.initial.out l.out
    × IsAtRest l.self × (l.self.names ≡ l.initial.self.names)
