use Rattle.dom_base.proofs.Std.{◌∙◌, ap, sym, refl, map, None, nil_from_length}
use Rattle.dom_live.specs.Documents.{world_documents}
use Rattle.dom_live.specs.Frames.{an_event}
use Rattle.dom_live.specs.SmallSteps.{going_on}
use Rattle.dom_callbacks.specs.Views.{listener_at, under_way, visiting_view}
use Rattle.dom_callbacks.specs.States.{live_of}
use Rattle.dom_callbacks.proofs.EventRuns.{visit-stopped}
use Rattle.dom_callbacks.proofs.Runs.{pushed-still}
use Rattle.dom_callbacks.proofs.Views.{bare-state}
use Rattle.dom_callbacks.proofs.state.LiveState.go_on.Goals as goal

pub returns-then-visit-clause-ran : goal.returns-then-visit-clause-ran
returns-then-visit-clause-ran g c =
    let s = live_of g.D.Documents.world c.args.self.now in
    let u = under_way c.args.event in
    let v = visiting_view c.args.visit in
    let f = an_event (record u { visiting = None }) in
    pushed-still g.A.Answers.adds c.end_visit.result (going_on world_documents s u v v.calls) s (live_of g.D.Documents.world c.end_visit.new.self)
    f f c.args.answer.now (bare-state g.D.Documents.world c.args.self.now) (visit-stopped s u v v.calls c.if-visit.true) refl
    (g.met.A.Answers.nothing c.args.answer.now) c.end_visit.ensures.state c.end_visit.ensures.none

pub returns-in-None-clause-ran : goal.returns-in-None-clause-ran
returns-in-None-clause-ran g c =
    let s = live_of g.D.Documents.world c.args.self.now in
    let u = under_way c.args.event in
    let v = visiting_view c.args.visit in
    let f = an_event (record u { visiting = None }) in
    pushed-still g.A.Answers.adds c.end_visit-in-None.result (going_on world_documents s u v v.calls) s
    (live_of g.D.Documents.world c.end_visit-in-None.new.self) f f c.args.answer.now (bare-state g.D.Documents.world c.args.self.now)
    (ap (λ ws. going_on world_documents s u v (map (λ w. listener_at c.args.visit.visit.current w.value) ws))
    (nil_from_length c.args.visit.calls.items (sym c.args.visit.calls.ok.0 ∙ c.in-None.ensures.cases.0)))
    refl (g.met.A.Answers.nothing c.args.answer.now) c.end_visit-in-None.ensures.state c.end_visit-in-None.ensures.none
