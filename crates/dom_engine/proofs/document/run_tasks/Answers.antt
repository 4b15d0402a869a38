use Rattle.dom_base.proofs.Std.{◌∙◌, on_ok_weaker}
use Rattle.dom_engine.proofs.DocumentCalls.{ran-world}
use Rattle.dom_engine.proofs.document.run_tasks.Goals as goal

pub returns-clause-world : goal.returns-clause-world
returns-clause-world c =
    on_ok_weaker c.run_tasks.result (ran-world c.args.machine.now.world c.set_aside.new.machine.world c.run_tasks.new.self.world c.args.waiting.now
    c.replace-tasks.result c.replace-tasks.new.dest c.in_ok-set_aside.ensures.world
    (c.replace-tasks.ensures.value ∙ c.in_ok-set_aside.ensures.tasks) (c.replace-tasks.ensures.after ∙ c.new.ensures)) c.run_tasks.ensures.world
