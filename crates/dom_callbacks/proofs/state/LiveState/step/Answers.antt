use Rattle.dom_base.proofs.Std.{ap, refl, []}
use Rattle.dom_live.specs.Documents.{world_documents}
use Rattle.dom_live.specs.Lines.{still}
use Rattle.dom_live.specs.SmallSteps.{frame_step}
use Rattle.dom_base.proofs.Std.{None}
use Rattle.dom_callbacks.specs.Views.{frame_view}
use Rattle.dom_callbacks.specs.States.{live_of}
use Rattle.dom_callbacks.proofs.Runs.{ran-as, ran-over}
use Rattle.dom_callbacks.proofs.Views.{bare-state}
use Rattle.dom_callbacks.proofs.state.LiveState.step.Goals as goal

pub returns-in-Microtask-clause-ran : goal.returns-in-Microtask-clause-ran
returns-in-Microtask-clause-ran g c =
    let s = live_of g.D.Documents.world c.args.self.now in
    ran-as g.A.Answers.adds (frame_step world_documents s (frame_view c.args.frame)) (still s) s c.args.answer.now c.args.answer.now None
    (ap (λ f. frame_step world_documents s (frame_view f)) c.in-Microtask.is)
    (ran-over g.A.Answers.adds s [] c.args.answer.now c.args.answer.now None (bare-state g.D.Documents.world c.args.self.now)
    (g.met.A.Answers.nothing c.args.answer.now) refl refl)
