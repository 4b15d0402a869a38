use Rattle.dom_base.proofs.Std.{◌∙◌, ap, sym, option_map}
use Rattle.dom_live.specs.Documents.{Live, world_documents}
use Rattle.dom_live.specs.SmallSteps.{checked, checkpoint_step, starting}
use Rattle.dom_model.specs.World.{World}
use Rattle.dom_callbacks.specs.Views.{checkpoint_view, task_view}
use Rattle.dom_callbacks.specs.States.{live_of}
use Rattle.dom_callbacks.proofs.NotificationRuns.{with_documents}
use Rattle.dom_callbacks.proofs.Readiness.{all-stay}
use Rattle.dom_callbacks.proofs.Runs.{on-ok, over, run-same}
use Rattle.dom_callbacks.proofs.TaskRuns.{checkpoint-over, none-at-end, task-begins}
use Rattle.dom_callbacks.proofs.Views.{bare-state}
use Rattle.dom_callbacks.proofs.state.LiveState.step_checkpoint.Goals as goal

pub push-requires-clause-ready : goal.push-requires-clause-ready
push-requires-clause-ready g c =
    all-stay (g.D.Documents.world c.args.self.now.documents) (g.D.Documents.world c.next_task.new.self) c.next_task.ensures.nodes
    c.args.self.now.frames.items c.requires

pub returns-in-None-clause-ran : goal.returns-in-None-clause-ran
returns-in-None-clause-ran g c =
    let s = live_of g.D.Documents.world c.args.self.now in
    let w = g.D.Documents.world c.next_task.new.self in
    let p = checkpoint_view c.args.checkpoint in
    over g.A.Answers.adds c.end_checkpoint.result (checkpoint_step world_documents s p s.documents.tasks) (with_documents s w) (with_documents s w)
    (checked p) c.args.answer.now c.end_checkpoint.new.answer
    (ap (λ (t : Live World). with_documents t w) (bare-state g.D.Documents.world c.args.self.now))
    (checkpoint-over s w c.next_task.ensures.world p (ap (option_map task_view) (sym c.in-None.is) ∙ c.next_task.ensures.task))
    (none-at-end p) c.end_checkpoint.ensures.told c.end_checkpoint.ensures.none

pub returns-in-None-clause-ready : goal.returns-in-None-clause-ready
returns-in-None-clause-ready g c =
    on-ok c.end_checkpoint.result
    (all-stay (g.D.Documents.world c.args.self.now.documents) (g.D.Documents.world c.next_task.new.self) c.next_task.ensures.nodes
    c.args.self.now.frames.items c.requires)

pub returns-in_ok-push-in-Some-clause-ran : goal.returns-in_ok-push-in-Some-clause-ran
returns-in_ok-push-in-Some-clause-ran g c =
    let s = live_of g.D.Documents.world c.args.self.now in
    let w = g.D.Documents.world c.next_task.new.self in
    let p = checkpoint_view c.args.checkpoint in
    let t = task_view c.in-Some.task in
    let mid = live_of g.D.Documents.world c.push.new.self in
    run-same g.A.Answers.adds c.start.result (checkpoint_step world_documents s p s.documents.tasks) (starting world_documents t mid)
    (live_of g.D.Documents.world c.start.new.self) c.args.answer.now c.start.new.answer
    (task-begins s w c.next_task.ensures.world p t (ap (option_map task_view) (sym c.in-Some.is) ∙ c.next_task.ensures.task)
    ∙ ap (starting world_documents t) (sym c.in_ok-push-in-Some.ensures.state))
    c.start.ensures.ran
