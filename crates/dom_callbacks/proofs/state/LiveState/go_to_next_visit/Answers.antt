use Rattle.dom_base.proofs.Std.{◌∙◌, ap, sym, refl, map, Some, nil_from_length}
use Rattle.dom_live.specs.Documents.{world_documents}
use Rattle.dom_live.specs.Frames.{an_event}
use Rattle.dom_live.specs.SmallSteps.{answered, begun_visit, between_visits}
use Rattle.dom_callbacks.specs.Views.{under_way, visit_view}
use Rattle.dom_callbacks.specs.States.{live_of}
use Rattle.dom_callbacks.proofs.EventRuns.{none-called, over-stopped, next-begins}
use Rattle.dom_callbacks.proofs.Runs.{over, pushed-still}
use Rattle.dom_callbacks.proofs.Views.{bare-state}
use Rattle.dom_callbacks.proofs.state.LiveState.go_to_next_visit.Goals as goal

pub returns-then-event-clause-ran : goal.returns-then-event-clause-ran
returns-then-event-clause-ran g c =
    let s = live_of g.D.Documents.world c.args.self.now in
    let u = under_way c.args.event in
    over g.A.Answers.adds c.end_event.result (between_visits world_documents s u u.visits) s s (answered u u.by) c.args.answer.now c.end_event.new.answer
    (bare-state g.D.Documents.world c.args.self.now) (over-stopped s u u.visits c.if-event.true) (none-called u u.by)
    c.end_event.ensures.told c.end_event.ensures.none

pub returns-in-None-clause-ran : goal.returns-in-None-clause-ran
returns-in-None-clause-ran g c =
    let s = live_of g.D.Documents.world c.args.self.now in
    let u = under_way c.args.event in
    over g.A.Answers.adds c.end_event-in-None.result (between_visits world_documents s u u.visits) s s (answered u u.by) c.args.answer.now
    c.end_event-in-None.new.answer (bare-state g.D.Documents.world c.args.self.now)
    (ap (λ vs. between_visits world_documents s u (map visit_view vs))
    (nil_from_length c.args.event.visits.items (sym c.args.event.visits.ok.0 ∙ c.in-None.ensures.cases.0)))
    (none-called u u.by) c.end_event-in-None.ensures.told c.end_event-in-None.ensures.none

pub returns-in-Some-clause-ran : goal.returns-in-Some-clause-ran
returns-in-Some-clause-ran g c =
    let s = live_of g.D.Documents.world c.args.self.now in
    let u = under_way c.args.event in
    let v = visit_view c.in-Some.visit in
    let f = an_event (record u {
      visits = map visit_view c.pop_front.new.self.items;
      visiting = Some (begun_visit world_documents s.documents u.event v);
    }) in
    pushed-still g.A.Answers.adds c.begin_visit.result (between_visits world_documents s u u.visits) s (live_of g.D.Documents.world c.begin_visit.new.self)
    f f c.args.answer.now (bare-state g.D.Documents.world c.args.self.now)
    (ap (λ vs. between_visits world_documents s u (map visit_view vs)) c.in-Some.ensures.items
    ∙ next-begins s u v (map visit_view c.pop_front.new.self.items) c.if-event.false)
    refl (g.met.A.Answers.nothing c.args.answer.now) c.begin_visit.ensures.state c.begin_visit.ensures.none
