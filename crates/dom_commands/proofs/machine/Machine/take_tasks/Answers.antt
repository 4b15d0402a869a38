use Rattle.dom_commands.proofs.Cited.{ap, ◌∙◌, MachineNow}
use Rattle.dom_commands.proofs.Closing.{closed_sound, closed_there, closed_world}
use Rattle.dom_commands.proofs.machine.Machine.take_tasks.Goals as goal

pub returns-clause-tasks : goal.returns-clause-tasks
returns-clause-tasks c = c.take_tasks.ensures.tasks ∙ ap (λ (n : MachineNow). n.world.tasks) c.self.view_is

pub returns-clause-world : goal.returns-clause-world
returns-clause-world c =
    closed_world c.self.inside.state c.take_tasks.new.self c.self.inside.listeners c.args.self.now c.self.view_is c.requires
    c.take_tasks.ensures.names c.take_tasks.ensures.world

pub returns-clause-there : goal.returns-clause-there
returns-clause-there c =
    closed_there c.self.inside.state c.take_tasks.new.self c.self.inside.listeners c.args.self.now c.self.view_is c.requires
    c.take_tasks.ensures.names c.take_tasks.ensures.world c.take_tasks.result c.take_tasks.ensures.tasks

pub returns-clause-sound : goal.returns-clause-sound
returns-clause-sound c =
    closed_sound c.self.inside.state c.take_tasks.new.self c.self.inside.listeners c.args.self.now c.self.view_is c.requires
    c.take_tasks.ensures.names c.take_tasks.ensures.world
