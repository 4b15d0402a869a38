use Rattle.dom_commands.proofs.Closing.{closed_run, ended_world, ended_telling}
use Rattle.dom_commands.proofs.machine.Machine.close_turn.Goals as goal

pub returns : goal.returns
returns g c =
    let run = closed_run c.args.self.now.world c.take_tasks-tasks.new.self.world c.take_tasks-tasks.result c.take_tasks-tasks.ensures.world
    c.take_tasks-tasks.ensures.tasks in
    record {
      told = ended_telling g.A.Answers.adds c.run_tasks.result c.args.out.now c.run_tasks.new.out run c.run_tasks.ensures.told;
      world = ended_world c.run_tasks.result c.run_tasks.new.self.world run c.run_tasks.ensures.world;
      sound = c.run_tasks.ensures.sound;
    }
