use Rattle.dom_commands.proofs.Cited.{sym, ap, ◌∙◌, MachineNow, own_listeners}
use Rattle.dom_model.proofs.Model.{is_there}
use Rattle.dom_commands.proofs.ListenerWorlds.{there-heard}
use Rattle.dom_commands.proofs.machine.Machine.is_there.Goals as goal

pub returns : goal.returns
returns c =
    c.is_there.ensures
    ∙ sym (there-heard (own_listeners c.self.inside.state.names c.self.inside.listeners) c.self.inside.state.world c.args.owner.now)
    ∙ ap (λ (n : MachineNow). is_there n.world c.args.owner.now) c.self.view_is
