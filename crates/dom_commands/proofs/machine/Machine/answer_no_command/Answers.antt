use Rattle.dom_commands.proofs.Cited.{refused_view}
use Rattle.dom_commands.proofs.Machines.{line_sound}
use Rattle.dom_commands.proofs.machine.Machine.answer_no_command.Goals as goal

pub returns-clause-sound : goal.returns-clause-sound
returns-clause-sound g c = line_sound c.no_command.result _ (refused_view c.copied.result) c.requires c.no_command.ensures.world
    c.no_command.ensures.listeners
