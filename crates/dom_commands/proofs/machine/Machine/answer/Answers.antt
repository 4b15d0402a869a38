use Rattle.dom_commands.proofs.Cited.{command_view}
use Rattle.dom_model.proofs.Model.{command as model_command}
use Rattle.dom_commands.proofs.Machines.{line_sound}
use Rattle.dom_commands.proofs.machine.Machine.answer.Goals as goal

pub returns-clause-sound : goal.returns-clause-sound
returns-clause-sound g c = line_sound c.command.result _ (model_command c.args.owner.now (command_view c.args.command.now)) c.requires
    c.command.ensures.world c.command.ensures.listeners
