-- An event under way where nothing is live: it goes along its visits as a dispatch of the document machine does.
use Rattle.dom_base.proofs.Std.{◌≡◌, Bool, true, false, not, ◌&&◌, List, [], ◌∷◌, ◌++◌, map, filter, fold, Option, Some, None}
use Rattle.dom_base.proofs.Std.{refl, sym, ap, ◌∙◌, true≢false, subst, cond-true, cond-false, AllByRecursion, map-append}
use Rattle.dom_base.proofs.Std.{or-true, or-false, and_parts, beq}
use Rattle.dom_model.proofs.Model.{Owner, NodeName, Word, World, Part, part_of, with_part, is_there, Visit, Listener, EventWords, name_eq}
use Rattle.dom_model.proofs.Model.{Action, Log, Stop, StopNow, Cancel, says, replied, a_truth, event_output, line_of, may_cancel, after_action}
use Rattle.dom_model.proofs.Model.{after_inner_invoke, hears, kept_after, world_visit, dispatch_in, begun, visits_of, views, is_listener}
use Rattle.dom_model.proofs.Model.{name_eq-true, part_of-with_part, owner-part_of}
use Rattle.dom_model.specs.Names.{append_once, owner_eq, text_eq}
use Rattle.dom_worlds.proofs.ListLemmas.{by_cases, all-passed, all-then}
use Rattle.dom_worlds.proofs.OwnerLemmas.{there-with_part}
use Rattle.dom_worlds.proofs.TurnLemmas.{Going, InWorld, with_listeners, no_call}
use Rattle.dom_live.specs.Lines.{LiveOutput, written}
use Rattle.dom_live.specs.Frames.{Visiting, UnderWay, Frame, an_event, acted, without_calls}
use Rattle.dom_live.specs.Documents.{Live, world_documents}
use Rattle.dom_live.specs.SmallSteps.{pushed, advance, calling, after_once, answered, beginning, without_listener}
use Rattle.dom_live.proofs.StillRuns.{quiet_live, Leads, leads-nowhere, leads-step, leads-on, leads-silently}
use Rattle.dom_live.proofs.StillParts.{part-again, written-twice}

-- frames that have no listener to be called
abbrev pub HasNoCalls : List Frame → Type 0
HasNoCalls fs = (x : NodeName) (event label : Word) (capture : Bool) → map (without_calls x event label capture) fs ≡ fs

-- who dispatched an event is told whether it was cancelled
abbrev pub answers : Option Owner → Bool → List LiveOutput
answers None not_cancelled = []
answers (Some o) not_cancelled = written (says o (replied (a_truth not_cancelled))) ∷ []

-- the lines of a dispatch
abbrev seen : Going → List LiveOutput
seen d = map written (map event_output d.lines)

-- Who stops the other listeners at once stops the event.
abbrev IsOrdered : Going → Type 0
IsOrdered d = d.stopped ≡ false → d.stopped_now ≡ false

-- An event under way: whose it is, the frames around, and from where it is looked at.
module _ (e : EventWords) (by : Option Owner) (nodes : List NodeName) (fs : List Frame) (calm : HasNoCalls fs) (tasks : List (Owner × Bool)) (over : Bool)
    (start : Live World) where
  -- the event, as far as a dispatch is
  abbrev going_event : List (Visit NodeName) → Option Visiting → Going → List Owner → UnderWay
  going_event vs m d knowing = record {
    event = e;
    by = by;
    nodes = nodes;
    visits = vs;
    visiting = m;
    stopped = d.stopped;
    cancelled = d.cancelled;
    knowing = knowing;
  }

  -- the visit that is made
  abbrev made : Visit NodeName → List (Listener NodeName) → Going → Visiting
  made v ls d = record { visit = v; calls = ls; called = None; stopped_now = d.stopped_now }

  -- live documents with the event
  abbrev at : World → UnderWay → Live World
  at w u = quiet_live w tasks (an_event u ∷ fs) over

  -- it came between two visits,
  record Between (vs : List (Visit NodeName)) (w : World) (d : Going) : Type 0 where
    knowing : List Owner
    ordered : IsOrdered d
    leads : Leads start (at w (going_event vs None d knowing)) (seen d)

  -- or into a visit, whose part has the listeners of the dispatch.
  record Within (vs : List (Visit NodeName)) (v : Visit NodeName) (w : World) (ls : List (Listener NodeName)) (d : Going) : Type 0 where
    knowing : List Owner
    ordered : IsOrdered d
    leads : Leads start
        (at (with_part w (with_listeners (part_of w v.current.owner) d.listeners)) (going_event vs (Some (made v ls d)) d knowing)) (seen d)

  -- it is over
  abbrev Over : World → Going → Type 0
  Over w d = Leads start (quiet_live w tasks fs over) (seen d ++ answers by (not d.cancelled))

  -- what is answered
  answered-as : (b : Option Owner) (u : UnderWay) → answered u b ≡ answers b (not u.cancelled)
  answered-as None u = refl
  answered-as (Some o) u = refl

  -- In a visit.
  module _ (vs : List (Visit NodeName)) (v : Visit NodeName) (w : World) where
    -- the owner of the node
    abbrev o : Owner
    o = v.current.owner

    -- its part
    abbrev p : Part
    p = part_of w o

    -- the world with its listeners
    abbrev heard : List (Listener NodeName) → World
    heard ls = with_part w (with_listeners p ls)

    -- its part then
    part-heard : (ls : List (Listener NodeName)) → part_of (heard ls) o ≡ with_listeners p ls
    part-heard ls = part_of-with_part w (with_listeners p ls) o (owner-part_of w o)

    -- one that is for once goes
    once-goes : (l : Listener NodeName) (ls : List (Listener NodeName)) → l.node ≡ v.current →
        after_once world_documents v.current l.words (quiet_live (heard ls) tasks fs over) ≡ quiet_live (heard (kept_after name_eq l ls)) tasks fs over
    once-goes l ls h =
        by_cases l.words.once
        (λ k. cond-true l.words.once (gone v.current) (quiet_live (heard ls) tasks fs over) k
        ∙ ap gone (sym h) ∙ removed l.node (ap (λ (x : NodeName). x.owner) h)
        ∙ ap (λ xs. quiet_live (heard xs) tasks fs over)
        (sym (cond-true l.words.once (less l.node ls) ls k)))
        (λ k. cond-false l.words.once (gone v.current) (quiet_live (heard ls) tasks fs over) k
        ∙ ap (λ xs. quiet_live (heard xs) tasks fs over) (sym (cond-false l.words.once (less l.node ls) ls k)))
      where
        less : NodeName → List (Listener NodeName) → List (Listener NodeName)
        less x ls = filter (λ k. not (is_listener name_eq x l.words.event l.words.label l.words.capture k)) ls

        gone : NodeName → Live World
        gone x = without_listener world_documents x l.words.event l.words.label l.words.capture (quiet_live (heard ls) tasks fs over)

        removed : (x : NodeName) → x.owner ≡ o → gone x ≡ quiet_live (heard (less x ls)) tasks fs over
        removed x q =
            ap (λ gs. record (gone x) { frames = gs }) (calm x l.words.event l.words.label l.words.capture)
            ∙ ap (λ y. quiet_live (world_documents.with_part (heard ls) (with_listeners (part_of (heard ls) y) (less x (part_of (heard ls) y).listeners)))
            tasks fs over) q
            ∙ ap (λ (y : Part). quiet_live (world_documents.with_part (heard ls) (with_listeners y (less x y.listeners))) tasks fs over) (part-heard ls)
            ∙ ap (λ u. quiet_live u tasks fs over)
            (written-twice w (with_listeners p ls) (with_listeners p (less x ls)) o (owner-part_of w o) (owner-part_of w o))

    -- a dispatch as a listener acts
    abbrev kept : Listener NodeName → Going → Going
    kept l d = record d { listeners = kept_after name_eq l d.listeners; lines = d.lines ++ line_of v l.words ∷ [] }

    -- What a listener's action does is what it does in a dispatch.
    record Acts (a : Action) (may : Bool) (ls : List (Listener NodeName)) (d : Going) (knowing : List Owner) : Type 0 where
      knows : List Owner
      same : acted o may a (going_event vs (Some (made v ls d)) d knowing)
          ≡ going_event vs (Some (made v ls (after_action a may d))) (after_action a may d) knows
      listeners : (after_action a may d).listeners ≡ d.listeners
      lines : (after_action a may d).lines ≡ d.lines
      ordered : IsOrdered d → IsOrdered (after_action a may d)

    -- each of them
    acts : (a : Action) (may : Bool) (ls : List (Listener NodeName)) (d : Going) (knowing : List Owner) → Acts a may ls d knowing
    acts Log may ls d knowing = record { knows = knowing; same = refl; listeners = refl; lines = refl; ordered = λ h. h }
    acts Stop may ls d knowing =
        record { knows = knowing; same = refl; listeners = refl; lines = refl; ordered = λ h s. absurd (true≢false s) }
    acts StopNow may ls d knowing =
        record { knows = knowing; same = refl; listeners = refl; lines = refl; ordered = λ h s. absurd (true≢false s) }
    acts Cancel true ls d knowing = record {
      knows = append_once owner_eq knowing o;
      same = ap (λ c. going_event vs (Some (made v ls d)) (record d { cancelled = c }) (append_once owner_eq knowing o)) (sym (or-true d.cancelled));
      listeners = refl;
      lines = refl;
      ordered = λ h. h;
    }
    acts Cancel false ls d knowing = record {
      knows = knowing;
      same = ap (λ c. going_event vs (Some (made v ls d)) (record d { cancelled = c }) knowing) (sym (or-false d.cancelled));
      listeners = refl;
      lines = refl;
      ordered = λ h. h;
    }

    -- one line more
    seen-more : (d : Going) (l : Listener NodeName) → seen (kept l d) ≡ seen d ++ written (event_output (line_of v l.words)) ∷ []
    seen-more d l =
        ap (map written) (map-append event_output d.lines (line_of v l.words ∷ []))
        ∙ map-append written (map event_output d.lines) (event_output (line_of v l.words) ∷ [])

    -- a listener is called
    call-on : (l : Listener NodeName) (ls : List (Listener NodeName)) (d : Going) → l.node ≡ v.current → d.stopped_now ≡ false →
        Within vs v w (l ∷ ls) d → Within vs v w ls (after_inner_invoke name_eq e v d l)
    call-on l ls d h n s =
        let may = may_cancel e l.words in
        let next = after_action l.words.action may (kept l d) in
        let k = acts l.words.action may ls (kept l d) s.knowing in
        let line = written (event_output (line_of v l.words)) in
        let was = going_event vs (Some (made v (l ∷ ls) d)) d s.knowing in
        let now = going_event vs (Some (made v ls d)) d s.knowing in
        let around = quiet_live (heard d.listeners) tasks fs over in
        let step : advance world_documents (at (heard d.listeners) was)
        ≡ (at (heard next.listeners) (going_event vs (Some (made v ls next)) next k.knows), line ∷ []) =
        cond-false d.stopped_now _ (calling world_documents around was (made v ls d) l) n
        ∙ ap (λ t. (pushed (an_event (acted o may l.words.action now)) t, line ∷ [])) (once-goes l d.listeners h)
        ∙ ap (λ x. (at (heard (kept l d).listeners) x, line ∷ [])) k.same
        ∙ ap (λ xs. (at (heard xs) (going_event vs (Some (made v ls next)) next k.knows), line ∷ [])) (sym k.listeners) in
        subst (Within vs v w ls) (sym (cond-false d.stopped_now d next n))
        (record {
          knowing = k.knows;
          ordered = k.ordered s.ordered;
          leads =
              subst (Leads start (at (heard next.listeners) (going_event vs (Some (made v ls next)) next k.knows)))
              (sym (ap (λ xs. map written (map event_output xs)) k.lines ∙ seen-more d l))
              (leads-on s.leads (leads-step refl step));
        })

    -- where the others are stopped no call is made
    none-called : (ls : List (Listener NodeName)) (d : Going) → d.stopped_now ≡ true → fold (after_inner_invoke name_eq e v) d ls ≡ d
    none-called [] d n = refl
    none-called (l ∷ ls) d n =
        ap (λ x. fold (after_inner_invoke name_eq e v) x ls) (no_call e v d l n) ∙ none-called ls d n

    -- the visit is over
    visit-over : (ls : List (Listener NodeName)) (d : Going) → (s : Within vs v w ls d) →
        advance world_documents (at (heard d.listeners) (going_event vs (Some (made v ls d)) d s.knowing))
        ≡ (at (heard d.listeners) (going_event vs None d s.knowing), []) → Between vs (heard d.listeners) d
    visit-over ls d s h = record { knowing = s.knowing; ordered = s.ordered; leads = leads-silently s.leads (leads-step refl h) }

    -- all that hear are called
    calls : (ls : List (Listener NodeName)) (d : Going) → AllByRecursion (λ l. l.node ≡ v.current) ls → Within vs v w ls d →
        let end = fold (after_inner_invoke name_eq e v) d ls in Between vs (heard end.listeners) end
    calls [] d h s = visit-over [] d s refl
    calls (l ∷ ls) d h s =
        by_cases d.stopped_now
        (λ n. subst (λ (x : Going). Between vs (heard x.listeners) x) (sym (none-called (l ∷ ls) d n))
        (visit-over (l ∷ ls) d s (cond-true d.stopped_now _ _ n)))
        (λ n. calls ls (after_inner_invoke name_eq e v d l) h.1 (call-on l ls d h.0 n s))

  -- A visit, where the event is not stopped.
  visit-on : (v : Visit NodeName) (vs : List (Visit NodeName)) (w : World) (d : Going) → (is_there w v.current.owner ≡ true) × (d.stopped ≡ false) →
      Between (v ∷ vs) w d → let next = world_visit e (w, d) v in Between vs next.0 next.1
  visit-on v vs w d h s =
      let p = part_of w v.current.owner in
      let first : Going = record d { listeners = p.listeners } in
      let hearing = filter (hears name_eq e v) p.listeners in
      let end = fold (after_inner_invoke name_eq e v) first hearing in
      let step : advance world_documents (at w (going_event (v ∷ vs) None d s.knowing))
      ≡ (at (with_part w p) (going_event vs (Some (made v hearing first)) first s.knowing), []) =
      cond-false d.stopped _ _ h.1
      ∙ ap (λ b. (at w (going_event vs (Some (record (made v hearing first) { stopped_now = b })) first s.knowing), [])) (sym (s.ordered h.1))
      ∙ ap (λ ps. (at (record w { parts = ps }) (going_event vs (Some (made v hearing first)) first s.knowing), []))
      (sym (part-again w v.current.owner h.0)) in
      let inside : Within vs v w hearing first =
      record { knowing = s.knowing; ordered = s.ordered; leads = leads-silently s.leads (leads-step refl step) } in
      subst (λ (x : Going). Between vs (with_part w (with_listeners p x.listeners)) x) (sym (cond-false d.stopped first end h.1))
      (calls vs v w hearing first (all-passed (λ l. l.node ≡ v.current) (hears name_eq e v) (λ l g. here l g) p.listeners) inside)
    where
      here : (l : Listener NodeName) → hears name_eq e v l ≡ true → l.node ≡ v.current
      here l g =
          name_eq-true l.node v.current
          (and_parts (name_eq l.node v.current) (text_eq l.words.event e.event && beq l.words.capture v.capturing) g).0

  -- where the event is stopped nothing more comes of it
  none-visited : (vs : List (Visit NodeName)) (w : World) (d : Going) → AllByRecursion (λ (v : Visit NodeName). is_there w v.current.owner ≡ true) vs →
      d.stopped ≡ true → Over w d → let end = fold (world_visit e) (w, d) vs in Over end.0 end.1
  none-visited [] w d h n s = s
  none-visited (v ∷ vs) w d h n s =
      let p = part_of w v.current.owner in
      let same : Going = record d { listeners = p.listeners } in
      subst (λ (x : InWorld). let end = fold (world_visit e) x vs in Over end.0 end.1)
      (sym (ap (λ (x : Going). (with_part w (with_listeners p x.listeners), x)) (cond-true d.stopped same _ n)
      ∙ ap (λ ps. (record w { parts = ps }, same)) (part-again w v.current.owner h.0)))
      (none-visited vs w same h.1 n s)

  -- all visits
  visits-on : (vs : List (Visit NodeName)) (w : World) (d : Going) → AllByRecursion (λ (v : Visit NodeName). is_there w v.current.owner ≡ true) vs →
      Between vs w d → let end = fold (world_visit e) (w, d) vs in Over end.0 end.1
  visits-on [] w d h s =
      leads-on s.leads (leads-step refl (ap (λ ls. (quiet_live w tasks fs over, ls)) (answered-as by (going_event [] None d s.knowing))))
  visits-on (v ∷ vs) w d h s =
      by_cases d.stopped
      (λ n. none-visited (v ∷ vs) w d h n
      (leads-on s.leads (leads-step refl (cond-true d.stopped _ _ n
      ∙ ap (λ ls. (quiet_live w tasks fs over, ls)) (answered-as by (going_event (v ∷ vs) None d s.knowing))))))
      (λ n. let next = world_visit e (w, d) v in
      visits-on vs next.0 next.1
      (all-then (λ (x : Visit NodeName). is_there w x.current.owner ≡ true) (λ (x : Visit NodeName). is_there next.0 x.current.owner ≡ true)
      (λ x g. there-with_part w (with_listeners (part_of w v.current.owner) next.1.listeners) x.current.owner g) vs h.1)
      (visit-on v vs w d (h.0, n) s))

-- An event goes as a dispatch of the document machine, with these frames around it.
module _ (fs : List Frame) (calm : HasNoCalls fs) (tasks : List (Owner × Bool)) (over : Bool) (w : World) where
  -- its visits
  abbrev pub event_visits : EventWords → NodeName → Option NodeName → List (Visit NodeName)
  event_visits e x r = visits_of name_eq e.bubbles (views w x r e.composed)

  -- the law
  pub event-goes : (e : EventWords) (by : Option Owner) (slot : List NodeName) (x : NodeName) (r : Option NodeName) →
      AllByRecursion (λ (v : Visit NodeName). is_there w v.current.owner ≡ true) (event_visits e x r) →
      let d = dispatch_in w x r e in
      Leads (quiet_live w tasks (an_event (beginning by slot e (event_visits e x r)) ∷ fs) over) (quiet_live d.run.0 tasks fs over)
      (map written d.run.1 ++ answers by d.answer)
  event-goes e by slot x r h =
      let vs = event_visits e x r in
      let start = quiet_live w tasks (an_event (beginning by slot e vs) ∷ fs) over in
      visits-on e by (slot ++ map (λ v. v.current) vs) fs calm tasks over start vs w (begun []) h
      (record { knowing = []; ordered = λ n. refl; leads = leads-nowhere start })
