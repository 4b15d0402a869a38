use Rattle.dom_base.proofs.Std.{ap}
use Rattle.dom_live.specs.Documents.{world_documents}
use Rattle.dom_live.specs.SmallSteps.{starting}
use Rattle.dom_callbacks.specs.declared.documents.Task.TheVariants as task
use Rattle.dom_callbacks.specs.Views.{task_view}
use Rattle.dom_callbacks.specs.States.{live_of}
use Rattle.dom_callbacks.proofs.Runs.{moved}
use Rattle.dom_callbacks.proofs.Views.{bare-state}
use Rattle.dom_callbacks.proofs.state.LiveState.start.Goals as goal

pub returns-in-Notify-clause-ran : goal.returns-in-Notify-clause-ran
returns-in-Notify-clause-ran g c =
    let s = live_of g.D.Documents.world c.args.self.now in
    let now = live_of g.D.Documents.world c.start_notification.new.self in
    moved g.A.Answers.adds c.start_notification.result (starting world_documents (task_view c.args.task) s) s now
    (starting world_documents (task_view (task.Notify c.in-Notify.owner)) s).0 c.args.answer.now
    (bare-state g.D.Documents.world c.start_notification.new.self) (ap (λ t. starting world_documents (task_view t) s) c.in-Notify.is)
    (g.met.A.Answers.nothing c.args.answer.now) c.start_notification.ensures.state c.start_notification.ensures.none
