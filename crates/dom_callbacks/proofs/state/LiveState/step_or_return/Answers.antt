use Rattle.dom_base.proofs.Std.{◌∙◌, sym, is_some, if◌then◌else◌, cond-true, cond-false}
use Rattle.dom_live.specs.Documents.{world_documents}
use Rattle.dom_live.specs.Frames.{caller, returned}
use Rattle.dom_live.specs.Lines.{still}
use Rattle.dom_live.specs.SmallSteps.{frame_step, put_back}
use Rattle.dom_callbacks.specs.Views.{frame_view}
use Rattle.dom_callbacks.specs.States.{live_of}
use Rattle.dom_callbacks.proofs.Runs.{ran-moved, run-same}
use Rattle.dom_callbacks.proofs.Views.{bare-state}
use Rattle.dom_callbacks.proofs.state.LiveState.step_or_return.Goals as goal

pub returns-then-is_called-clause-ran : goal.returns-then-is_called-clause-ran
returns-then-is_called-clause-ran g c =
    let s = live_of g.D.Documents.world c.args.self.now in
    let f = frame_view c.args.frame in
    let x = put_back (returned f) s in
    ran-moved g.A.Answers.adds (if is_some (caller f) then still x else frame_step world_documents s f) x (live_of g.D.Documents.world c.put_back.new.self)
    c.args.answer.now (bare-state g.D.Documents.world c.put_back.new.self)
    (cond-true (is_some (caller f)) _ _ (sym c.is_called.ensures ∙ c.if-is_called.true))
    (g.met.A.Answers.nothing c.args.answer.now) c.in_ok-put_back.ensures.state

pub returns-clause-ran : goal.returns-clause-ran
returns-clause-ran g c =
    let s = live_of g.D.Documents.world c.args.self.now in
    let f = frame_view c.args.frame in
    run-same g.A.Answers.adds c.step.result (if is_some (caller f) then still (put_back (returned f) s) else frame_step world_documents s f)
    (frame_step world_documents s f) (live_of g.D.Documents.world c.step.new.self) c.args.answer.now c.step.new.answer
    (cond-false (is_some (caller f)) _ _ (sym c.is_called.ensures ∙ c.if-is_called.false)) c.step.ensures.ran
