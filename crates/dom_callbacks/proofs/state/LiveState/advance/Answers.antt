use Rattle.dom_base.proofs.Std.{List, ◌∙◌, ap, sym, subst, map, is_some, if◌then◌else◌, AllByRecursion, nil_from_length}
use Rattle.dom_model.specs.World.{World}
use Rattle.dom_live.specs.Documents.{Live, world_documents}
use Rattle.dom_live.specs.Frames as live
use Rattle.dom_live.specs.Frames.{caller, returned}
use Rattle.dom_live.specs.Lines.{still}
use Rattle.dom_live.specs.SmallSteps.{advance, advance_in, frame_step, put_back}
use Rattle.dom_callbacks.specs.Views.{frame_view}
use Rattle.dom_callbacks.specs.States.{live_of, HasSlots}
use Rattle.dom_callbacks.proofs.Runs.{ran-moved, run-same}
use Rattle.dom_callbacks.proofs.Views.{bare-state}
use Rattle.dom_callbacks.proofs.state.LiveState.advance.Goals as goal

-- the state with these frames
abbrev with_these : Live World → List live.Frame → Live World
with_these s fs = record s { frames = fs }

pub step_or_return-requires-clause-ready : goal.step_or_return-requires-clause-ready
step_or_return-requires-clause-ready g c =
    (subst (λ fs. AllByRecursion (HasSlots (g.D.Documents.world c.args.self.now.documents)) fs) c.in-Some.ensures.items c.requires).1

pub step_or_return-requires-clause-slots : goal.step_or_return-requires-clause-slots
step_or_return-requires-clause-slots g c =
    (subst (λ fs. AllByRecursion (HasSlots (g.D.Documents.world c.args.self.now.documents)) fs) c.in-Some.ensures.items c.requires).0

pub returns-in-None-clause-ran : goal.returns-in-None-clause-ran
returns-in-None-clause-ran g c =
    let world = g.D.Documents.world in
    let s = live_of world c.args.self.now in
    let left = record c.args.self.now { frames = c.pop_front.new.self } in
    ran-moved g.A.Answers.adds (advance world_documents s) s (live_of world left) c.args.answer.now (bare-state world left)
    (ap (λ fs. advance_in world_documents s (map frame_view fs))
    (nil_from_length c.args.self.now.frames.items (sym c.args.self.now.frames.ok.0 ∙ c.in-None.ensures.cases.0)))
    (g.met.A.Answers.nothing c.args.answer.now)
    (ap (λ fs. with_these s (map frame_view fs)) (sym c.in-None.ensures.items))

pub returns-in-Some-clause-ran : goal.returns-in-Some-clause-ran
returns-in-Some-clause-ran g c =
    let s = live_of g.D.Documents.world c.args.self.now in
    let around = live_of g.D.Documents.world (record c.args.self.now { frames = c.pop_front.new.self }) in
    let f = frame_view c.in-Some.frame in
    run-same g.A.Answers.adds c.step_or_return.result (advance world_documents s)
    (if is_some (caller f) then still (put_back (returned f) around) else frame_step world_documents around f)
    (live_of g.D.Documents.world c.step_or_return.new.self) c.args.answer.now c.step_or_return.new.answer
    (ap (λ fs. advance_in world_documents s (map frame_view fs)) c.in-Some.ensures.items) c.step_or_return.ensures.ran
