use Rattle.dom_commands.proofs.Cited.{length, IsAtRest, AreThere}
use Rattle.dom_model.proofs.Model.{running_task}
use Rattle.dom_commands.proofs.Closing.{Ran}
use Rattle.dom_commands.proofs.machine.Machine.run_tasks.Given as goal

abbrev pub invariant-loop-task : goal.invariant-loop-task
invariant-loop-task g l = Ran g.A.Answers.adds running_task l.initial.self.world l.self.world l.initial.tasks l.tasks l.initial.out l.out ×
    IsAtRest l.self × AreThere l.self.world l.tasks

abbrev pub decreases-loop-task : goal.decreases-loop-task
decreases-loop-task g l = length l.tasks
