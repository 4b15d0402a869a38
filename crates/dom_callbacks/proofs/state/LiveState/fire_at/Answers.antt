use Rattle.dom_base.proofs.Std.{◌∙◌, ap, None}
use Rattle.dom_live.specs.Documents.{world_visits}
use Rattle.dom_live.specs.Frames.{a_notification, an_event}
use Rattle.dom_live.specs.SmallSteps.{fired_at, pushed}
use Rattle.dom_callbacks.specs.Bare.{bare_event}
use Rattle.dom_callbacks.specs.Views.{notification_view, under_way}
use Rattle.dom_callbacks.specs.States.{live_of}
use Rattle.dom_callbacks.proofs.state.LiveState.fire_at.Goals as goal

pub returns-clause-state : goal.returns-clause-state
returns-clause-state g c =
    let s = live_of g.D.Documents.world c.args.self.now in
    let x = c.args.slot in
    let within = pushed (a_notification (notification_view c.args.notification)) s in
    c.in_ok-push-2.ensures.state
    ∙ ap (pushed (an_event (under_way c.fired_with.result))) c.in_ok-push.ensures.state
    ∙ ap (λ t. pushed (an_event t) within) (c.fired_with.ensures x c.in_ok-event.ensures
    ∙ ap (λ vs. bare_event (fired_at x vs)) (c.in_ok-visits.ensures ∙ ap (λ t. world_visits s.documents x None t) c.in_ok-event.ensures))
