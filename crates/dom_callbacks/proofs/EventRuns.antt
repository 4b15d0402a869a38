-- Small steps of an event under way, as runs.
use Rattle.dom_base.proofs.Std.{◌≡◌, true, false, not, List, [], ◌∷◌, refl, sym, ap, ◌∙◌, Option, Some, None, cond-true, cond-false}
use Rattle.dom_base.specs.declared.Owner.{Owner}
use Rattle.dom_base.specs.declared.NodeName.{NodeName}
use Rattle.dom_model.specs.Command.{ListenerWords}
use Rattle.dom_model.specs.Listeners.{Listener, Visit, line_of, may_cancel}
use Rattle.dom_model.specs.Output.{Output, says, replied, a_truth, event_seen}
use Rattle.dom_model.specs.World.{World}
use Rattle.dom_live.specs.Documents.{Live, world_documents, is_live}
use Rattle.dom_live.specs.Frames.{UnderWay, Visiting, an_event, told_to, acted}
use Rattle.dom_live.specs.Lines.{written, calls, at_event, still}
use Rattle.dom_live.specs.SmallSteps.{answered, after_once, begun_visit, between_visits, calling, going_on, pushed}
use Rattle.dom_callbacks.specs.Bare.{bare_event, bare}
use Rattle.dom_callbacks.specs.Outputs.{calls_in, call_at_event}
use Rattle.dom_callbacks.specs.States.{Ran}
use Rattle.dom_callbacks.proofs.Runs.{ran-as, ran-pushed}
use Rattle.dom_callbacks.proofs.Views.{bare-told}

-- a stopped event is over
pub over-stopped : (s : Live World) (u : UnderWay) (vs : List (Visit NodeName)) → u.stopped ≡ true →
    between_visits world_documents s u vs ≡ (s, answered u u.by)
over-stopped s u [] h = refl
over-stopped s u (v ∷ vs) h = cond-true u.stopped _ _ h

-- where a visit is left of one that is not stopped, it begins
pub next-begins : (s : Live World) (u : UnderWay) (v : Visit NodeName) (vs : List (Visit NodeName)) → u.stopped ≡ false →
    between_visits world_documents s u (v ∷ vs)
    ≡ still (pushed (an_event (record u { visits = vs; visiting = Some (begun_visit world_documents s.documents u.event v) })) s)
next-begins s u v vs h = cond-false u.stopped _ _ h

-- a visit whose other listeners are stopped is over
pub visit-stopped : (s : Live World) (u : UnderWay) (v : Visiting) (ls : List (Listener NodeName)) → v.stopped_now ≡ true →
    going_on world_documents s u v ls ≡ still (pushed (an_event (record u { visiting = None })) s)
visit-stopped s u v [] h = refl
visit-stopped s u v (l ∷ ls) h = cond-true v.stopped_now _ _ h

-- nobody is called when an event is over
pub none-called : (u : UnderWay) (by : Option Owner) → calls_in (answered u by) ≡ []
none-called u None = refl
none-called u (Some o) = refl

-- what is answered is told by the canceled flag alone
pub answered-same : (u v : UnderWay) (by : Option Owner) → u.cancelled ≡ v.cancelled → answered u by ≡ answered v by
answered-same u v None e = refl
answered-same u v (Some o) e = ap (λ b. written (says o (replied (a_truth (not b)))) ∷ []) e

module _ {A : Type 0} (adds : A → List Output → A → Type 0) (s mid now : Live World) (u : UnderWay) (v : Visiting) (w : ListenerWords) (a b : A) where
  -- the node of the visit, and its owner
  abbrev node : NodeName
  node = v.visit.current

  -- the line of the call
  abbrev seen : List Output
  seen = says node.owner (event_seen (line_of v.visit w)) ∷ []

  -- the event while the listener is called
  abbrev called : UnderWay
  called = record u { visiting = Some (record v { called = Some w }) }

  -- the owner of a listener that is live is called
  pub called-live : bare mid ≡ mid → bare_event called ≡ called → mid ≡ after_once world_documents node w s → now ≡ pushed (an_event called) mid →
      is_live s.live_listeners node w ≡ true → adds a seen b →
      Ran adds (calling world_documents s u v (record { node = node; words = w })) now a b (Some (call_at_event node.owner u))
  called-live bares e m n live told =
      let outputs = written (says node.owner (event_seen (line_of v.visit w))) ∷ calls node.owner (at_event u.event u.cancelled) ∷ [] in
      let g = an_event (told_to node.owner called) in
      ran-as adds _ (pushed g mid, outputs) now a b (Some (call_at_event node.owner u))
      (cond-true (is_live s.live_listeners node w) _ _ live ∙ ap (λ (t : Live World). (pushed g t, outputs)) (sym m))
      (ran-pushed adds mid now (an_event called) g outputs a b (Some (call_at_event node.owner u)) bares n
      (ap an_event (sym e ∙ sym (bare-told node.owner called))) told refl)

  -- one that is not does what it does
  module _ (f : UnderWay) where
    pub called-plain : bare mid ≡ mid → mid ≡ after_once world_documents node w s → now ≡ pushed (an_event f) mid → f
        ≡ bare_event (acted node.owner (may_cancel u.event w) w.action (record u { visiting = Some v })) → is_live s.live_listeners node w ≡ false →
        adds a seen b → Ran adds (calling world_documents s u v (record { node = node; words = w })) now a b None
    called-plain bares m n e plain told =
        let outputs = written (says node.owner (event_seen (line_of v.visit w))) ∷ [] in
        let g = an_event (acted node.owner (may_cancel u.event w) w.action (record u { visiting = Some v })) in
        ran-as adds _ (pushed g mid, outputs) now a b None
        (cond-false (is_live s.live_listeners node w) _ _ plain ∙ ap (λ (t : Live World). (pushed g t, outputs)) (sym m))
        (ran-pushed adds mid now (an_event f) g outputs a b None bares n (ap an_event e) told refl)
