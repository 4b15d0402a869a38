use Rattle.dom_commands.proofs.Cited.{◌≡◌, true, subst, MachineNow, machine_now, IsAtRest}
use Rattle.dom_model.proofs.Model.{is_there}
use Rattle.dom_commands.proofs.Opening.{IsOpened, opened_sound}
use Rattle.dom_commands.proofs.machine.Machine.open_turn.Goals as goal

pub returns-clause-sound : goal.returns-clause-sound
returns-clause-sound c =
    let ls = c.self.inside.listeners in
    let t = c.open_turn.new.self in
    let opened : IsOpened c.self.inside.state t c.args.owner = record { names = c.open_turn.ensures.names; world = c.open_turn.ensures.world } in
    subst (λ (m : MachineNow). is_there m.world c.args.owner ≡ true → IsAtRest m → IsAtRest (machine_now t ls)) c.self.view_is (opened_sound ls opened)
    c.requires.owner_is_there c.requires.sound
