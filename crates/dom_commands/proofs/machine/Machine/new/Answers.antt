use Rattle.dom_commands.proofs.Cited.{sym, subst, machine_now, IsAtRest}
use Rattle.dom_commands.proofs.Machines.{first_sound}
use Rattle.dom_commands.proofs.machine.Machine.new.Goals as goal

pub returns-clause-sound : goal.returns-clause-sound
returns-clause-sound c = subst (λ ls. IsAtRest (machine_now c.in_ok-state.state ls)) (sym c.new-2.ensures)
    (first_sound c.in_ok-state.state c.in_ok-state.ensures)
