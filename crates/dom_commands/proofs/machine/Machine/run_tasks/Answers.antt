use Rattle.dom_commands.proofs.Cited.{◌≡◌, List, ◌∷◌, subst, sym, task_of, AreThere}
use Rattle.dom_model.proofs.Model.{run_each, running_task, Task}
use Rattle.dom_commands.proofs.Closing.{Ran, ran_more, first_rest, none_left, there_after}
use Rattle.dom_commands.proofs.machine.Machine.run_tasks.Goals as goal

pub loop-task-preserved : goal.loop-task-preserved
loop-task-preserved g c =
    let was = c.args.self.now.world in
    let now = c.loop-task.self.world in
    let ts = c.loop-task.tasks in
    let us = c.pop.new.self in
    let t = task_of c.in-Some.task in
    let first : ts ≡ t ∷ us = first_rest ts us t c.in-Some.ensures.task c.in-Some.ensures.rest in
    let ran = subst (λ (xs : List Task). Ran g.A.Answers.adds running_task was now c.args.tasks xs c.args.out.now c.loop-task.out) first
    c.loop-task.invariant.0 in
    let there = subst (AreThere now) first c.loop-task.invariant.2 in (
      ran_more g.A.Answers.adds running_task g.met.A.Answers.more ran c.in_ok-run_task.ensures.world c.in_ok-run_task.ensures.told,
      c.in_ok-run_task.ensures.sound,
      there_after now c.run_task.new.self.world t us there c.in_ok-run_task.ensures.world,
    )

pub returns-clause-told : goal.returns-clause-told
returns-clause-told g c =
    let now = c.loop-task.out in
    c.loop-task.invariant.0.told now (subst (λ (ts : List Task). g.A.Answers.adds now (run_each running_task c.loop-task.self.world ts).1 now)
    (sym (none_left c.loop-task.tasks c.in_default.ensures.task)) (g.met.A.Answers.nothing now))
