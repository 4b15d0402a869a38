use Rattle.dom_base.proofs.Std.{◌∙◌, ap, sym, refl, subst, map, Some, ◌∷◌, []}
use Rattle.dom_model.specs.Listeners.{line_of, may_cancel}
use Rattle.dom_model.specs.Output.{says, event_seen}
use Rattle.dom_live.specs.Documents.{is_live, world_documents}
use Rattle.dom_live.specs.Frames.{acted}
use Rattle.dom_live.specs.SmallSteps.{after_once, calling}
use Rattle.dom_reader.specs.Views.{listener_view}
use Rattle.dom_callbacks.specs.Bare.{bare_event}
use Rattle.dom_callbacks.specs.Views.{listener_at, under_way, visiting_view}
use Rattle.dom_callbacks.specs.States.{live_listener, live_of, Ran}
use Rattle.dom_callbacks.proofs.EventRuns.{called-live, called-plain}
use Rattle.dom_callbacks.proofs.Views.{bare-state}
use Rattle.dom_callbacks.proofs.state.LiveState.call_listener.Goals as goal

pub returns-then-is_live-clause-ran : goal.returns-then-is_live-clause-ran
returns-then-is_live-clause-ran g c =
    let world = g.D.Documents.world in
    let s = live_of world c.args.self.now in
    let v = visiting_view c.args.visit in
    let x = c.args.visit.visit.current in
    let w = listener_view c.args.words.value in
    subst (λ k. Ran g.A.Answers.adds (calling world_documents s (under_way c.args.event) v (listener_at x c.args.words.value))
    (live_of world c.push.new.self) c.args.answer.now c.tell_event.new.answer (Some k)) (sym c.call_of-calling.ensures)
    (called-live g.A.Answers.adds s (live_of world c.remove_once.new.self) (live_of world c.push.new.self) (under_way c.args.event) v w
    c.args.answer.now c.tell_event.new.answer
    (bare-state world c.remove_once.new.self) refl
    (c.remove_once.ensures.state ∙ ap (λ t. after_once world_documents x (listener_view t) s) c.deref-3.ensures)
    c.in_ok-push.ensures.state
    (ap (λ t. is_live (map live_listener t) x w) (sym c.as_slice.ensures.value)
    ∙ ap (λ t. is_live (map live_listener c.as_slice.result.now) x (listener_view t)) (sym c.deref-2.ensures)
    ∙ sym c.is_live_listener-is_live.ensures ∙ c.if-is_live.true)
    (subst (λ t. g.A.Answers.adds c.args.answer.now (says x.owner (event_seen (line_of v.visit (listener_view t))) ∷ []) c.tell_event.new.answer)
    c.deref.ensures c.in_ok-tell_event.ensures))

pub returns-clause-ran : goal.returns-clause-ran
returns-clause-ran g c =
    let world = g.D.Documents.world in
    let s = live_of world c.args.self.now in
    let u = under_way c.args.event in
    let v = visiting_view c.args.visit in
    let x = c.args.visit.visit.current in
    let w = listener_view c.args.words.value in
    called-plain g.A.Answers.adds s (live_of world c.remove_once.new.self) (live_of world c.push-2.new.self) u v w
    c.args.answer.now c.tell_event.new.answer (under_way c.act.new.self)
    (bare-state world c.remove_once.new.self)
    (c.remove_once.ensures.state ∙ ap (λ t. after_once world_documents x (listener_view t) s) c.deref-3.ensures)
    c.in_ok-push-2.ensures.state
    (c.act.ensures x.owner
    ∙ ap (λ t. bare_event (acted x.owner t c.deref-5.result.now.action (record u { visiting = Some v })))
    (c.may_cancel-cancels.ensures ∙ ap (λ t. may_cancel u.event (listener_view t)) c.deref-4.ensures)
    ∙ ap (λ t. bare_event (acted x.owner (may_cancel u.event w) (listener_view t).action (record u { visiting = Some v }))) c.deref-5.ensures)
    (ap (λ t. is_live (map live_listener t) x w) (sym c.as_slice.ensures.value)
    ∙ ap (λ t. is_live (map live_listener c.as_slice.result.now) x (listener_view t)) (sym c.deref-2.ensures)
    ∙ sym c.is_live_listener-is_live.ensures ∙ c.if-is_live.false)
    (subst (λ t. g.A.Answers.adds c.args.answer.now (says x.owner (event_seen (line_of v.visit (listener_view t))) ∷ []) c.tell_event.new.answer)
    c.deref.ensures c.in_ok-tell_event.ensures)
