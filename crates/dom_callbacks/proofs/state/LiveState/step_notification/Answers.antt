use Rattle.dom_base.proofs.Std.{◌≡◌, ◌∙◌, ap, sym, refl, subst, [], None, OnOk, nil_from_length}
use Rattle.dom_model.specs.Turns as turns
use Rattle.dom_model.specs.World.{World}
use Rattle.dom_live.specs.Documents.{Live, world_documents, world_visits}
use Rattle.dom_live.specs.Frames.{a_notification, an_event}
use Rattle.dom_live.specs.Lines.{still}
use Rattle.dom_live.specs.SmallSteps.{fired_at, firing_at, notification_step, pushed}
use Rattle.dom_callbacks.specs.Bare.{bare_event}
use Rattle.dom_callbacks.specs.Views.{notification_view}
use Rattle.dom_callbacks.specs.States.{live_of}
use Rattle.dom_callbacks.proofs.Runs.{pushed-still, ran-as, ran-over}
use Rattle.dom_callbacks.proofs.Views.{bare-state}
use Rattle.dom_callbacks.proofs.state.LiveState.step_notification.Goals as goal

pub returns-in-None-clause-ran : goal.returns-in-None-clause-ran
returns-in-None-clause-ran g c =
    let s = live_of g.D.Documents.world c.args.self.now in
    let n = notification_view c.args.notification in
    ran-as g.A.Answers.adds (notification_step world_documents s n n.observers) (still s) s c.args.answer.now c.args.answer.now None
    (ap (notification_step world_documents s n)
    (nil_from_length c.args.notification.observers.items (sym c.args.notification.observers.ok.0 ∙ c.in_default.ensures.cases.0))
    ∙ ap (firing_at world_documents s n)
    (nil_from_length c.args.notification.slots.items (sym c.args.notification.slots.ok.0 ∙ c.in-None.ensures.cases.0)))
    (ran-over g.A.Answers.adds s [] c.args.answer.now c.args.answer.now None (bare-state g.D.Documents.world c.args.self.now)
    (g.met.A.Answers.nothing c.args.answer.now) refl refl)

pub returns-in-Some-pop_front-clause-ran : goal.returns-in-Some-pop_front-clause-ran
returns-in-Some-pop_front-clause-ran g c =
    let s = live_of g.D.Documents.world c.args.self.now in
    let n = notification_view c.args.notification in
    let x = c.in-Some-pop_front.slot in
    let left = record n { slots = c.pop_front-2.new.self.items } in
    let within = pushed (a_notification left) s in
    let u = fired_at x (world_visits s.documents x None turns.slotchange) in
    let now = live_of g.D.Documents.world c.fire_at.new.self in
    pushed-still g.A.Answers.adds c.fire_at.result (notification_step world_documents s n n.observers) within now
    (an_event (bare_event u)) (an_event u) c.args.answer.now
    (ap (λ (t : Live World). pushed (a_notification left) t) (bare-state g.D.Documents.world c.args.self.now))
    (ap (notification_step world_documents s n)
    (nil_from_length c.args.notification.observers.items (sym c.args.notification.observers.ok.0 ∙ c.in_default.ensures.cases.0))
    ∙ ap (firing_at world_documents s n) c.in-Some-pop_front.ensures.items)
    refl (g.met.A.Answers.nothing c.args.answer.now)
    (subst (λ ks. OnOk c.fire_at.result (now ≡ pushed (an_event (bare_event u)) (pushed (a_notification (record left { observers = ks })) s)))
    (sym c.in_default.ensures.items) c.fire_at.ensures.state)
    c.fire_at.ensures.none
