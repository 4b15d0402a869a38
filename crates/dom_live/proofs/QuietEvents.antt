-- Where the listeners of owners outside a group only log, and they act on no event: nothing of them stops an event, and who knows that one is cancelled is
-- a member.
use Rattle.dom_base.proofs.Std.{◌≡◌, ℕ, Bool, true, false, not, ◌&&◌, ◌||◌, List, []}
use Rattle.dom_base.proofs.Std.{◌∷◌, ◌++◌, map, Option, Some, None, is_some, option_map, refl, sym}
use Rattle.dom_base.proofs.Std.{ap, ◌∙◌, subst, true≢false, cond, cond-true}
use Rattle.dom_base.proofs.Std.{cond-false, if◌then◌else◌, list_any, AllByRecursion, option_to_list, ⊤, list_any-append}
use Rattle.dom_model.proofs.Model.{Owner, NodeName, Word, World, Task, micro_task}
use Rattle.dom_model.proofs.Model.{notify_task, part_of, Part, put_part, is_there, owner-part_of, is_page}
use Rattle.dom_model.proofs.Model.{Visit, Listener, ListenerWords, Action, Log, Stop, StopNow, Cancel, owner_eq, name_eq, is_in, is_listener}
use Rattle.dom_model.proofs.Model.{with_listener_removed}
use Rattle.dom_model.specs.Names.{append_once, is_empty}
use Rattle.dom_model.specs.Listeners.{hears, may_cancel}
use Rattle.dom_model.specs.Part.{queue_of}
use Rattle.dom_worlds.specs.Definitions.{OnlyLogs}
use Rattle.dom_worlds.proofs.ListLemmas.{by_cases, all-filter}
use Rattle.dom_worlds.proofs.WorldLemmas.{each-part}
use Rattle.dom_live.specs.Lines.{LiveRun, still}
use Rattle.dom_live.specs.Frames.{Visiting, UnderWay, Notification, Checkpoint, Frame, an_event, a_notification, a_microtask, a_checkpoint, caller, returned}
use Rattle.dom_live.specs.Frames.{returned_visit, acted, told_to, known_by, stopped_visit, without_call, without_calls}
use Rattle.dom_live.specs.Documents.{Live, world_documents, written, is_live, first_is_live}
use Rattle.dom_live.specs.SmallSteps.{put_back, advance, advance_in, frame_step, event_step, between_visits, going_on, calling, firing_at, notification_step}
use Rattle.dom_live.specs.SmallSteps.{checkpoint_step, without_listener, after_once, is_observer}
use Rattle.dom_live.proofs.OwnEvents.{any-knowing_in}
use Rattle.dom_live.proofs.OtherLogs.{OthersOnlyLog}

module _ (g : Owner → Bool) where
  -- in a visit at another's node the event is not stopped, and the listeners left only log
  abbrev AreQuietVisits : Bool → Option Visiting → Type 0
  AreQuietVisits stopped m =
      AllByRecursion (λ (v : Visiting). g v.visit.current.owner ≡ false → (stopped ≡ false) × AllByRecursion OnlyLogs v.calls) (option_to_list m)

  -- So it is of an event; and if it is cancelled, a member knows.
  pub record IsQuietEvent (u : UnderWay) : Type 0 where
    pub visiting : AreQuietVisits u.stopped u.visiting
    pub cancelled : u.cancelled ≡ true → list_any g u.knowing ≡ true

  -- of a frame
  abbrev pub IsQuietFrame : Frame → Type 0
  IsQuietFrame (an_event u) = IsQuietEvent u
  IsQuietFrame f = ⊤

  -- others' listeners only log, and frames are so
  pub record IsQuiet (s : Live World) : Type 0 where
    pub logs : OthersOnlyLog g s.documents
    pub frames : AllByRecursion IsQuietFrame s.frames

  -- one run or another
  pub either-quiet : (b : Bool) (r t : LiveRun (Live World)) → IsQuiet r.0 → IsQuiet t.0 → IsQuiet (cond b r t).0
  either-quiet true r t h k = h
  either-quiet false r t h k = k

  -- ---- acts

  -- who knew, knows
  still-known : (ks : List Owner) (o : Owner) → list_any g ks ≡ true → list_any g (append_once owner_eq ks o) ≡ true
  still-known ks o h = by (is_in owner_eq o ks)
    where
      by : (b : Bool) → list_any g (if b then ks else ks ++ o ∷ []) ≡ true
      by true = h
      by false = list_any-append g ks (o ∷ []) ∙ ap (λ b. b || list_any g (o ∷ [])) h

  -- no other action only logs
  abbrev Logs : Owner → Action → Type 0
  Logs o a = g o ≡ false → a ≡ Log

  -- Acts of an owner.
  module _ (o : Owner) (may : Bool) where
    -- an act of the owner at whose node the visit is
    pub acted-quiet : (a : Action) (u : UnderWay) → Logs o a →
        AllByRecursion (λ (v : Visiting). v.visit.current.owner ≡ o) (option_to_list u.visiting) → IsQuietEvent u → IsQuietEvent (acted o may a u)
    acted-quiet Log u f at h = h
    acted-quiet Stop u f at h = record { visiting = from u.visiting at; cancelled = h.cancelled }
      where
        clash : Stop ≡ Log → ⊥
        clash e = cc

        from : (m : Option Visiting) → AllByRecursion (λ (v : Visiting). v.visit.current.owner ≡ o) (option_to_list m) → AreQuietVisits true m
        from None i = tt
        from (Some v) i = (λ k. absurd (clash (f (ap g (sym i.0) ∙ k))), tt)
    acted-quiet StopNow u f at h = record { visiting = from u.visiting at; cancelled = h.cancelled }
      where
        clash : StopNow ≡ Log → ⊥
        clash e = cc

        from : (m : Option Visiting) → AllByRecursion (λ (v : Visiting). v.visit.current.owner ≡ o) (option_to_list m) →
            AreQuietVisits true (option_map stopped_visit m)
        from None i = tt
        from (Some v) i = (λ k. absurd (clash (f (ap g (sym i.0) ∙ k))), tt)
    acted-quiet Cancel u f at h = by may
      where
        clash : Cancel ≡ Log → ⊥
        clash e = cc

        by : (b : Bool) → IsQuietEvent (if b then known_by o (record u { cancelled = true }) else u)
        by true = record {
          visiting = h.visiting;
          cancelled = λ k. by_cases (g o) (λ e. any-knowing_in g u.knowing o e) (λ e. absurd (clash (f e)));
        }
        by false = h

  -- an owner is told
  told-quiet : (o : Owner) (u : UnderWay) → IsQuietEvent u → IsQuietEvent (told_to o u)
  told-quiet o u h = by u.cancelled
    where
      by : (b : Bool) → IsQuietEvent (if b then known_by o u else u)
      by true = record { visiting = h.visiting; cancelled = λ k. still-known u.knowing o (h.cancelled k) }
      by false = h

  -- ---- parts and frames

  -- a part that is written
  written-logs : (w : World) (o : Owner) (q : Part) → q.owner ≡ o → (g o ≡ false → AllByRecursion OnlyLogs q.listeners) → OthersOnlyLog g w →
      OthersOnlyLog g (written w q)
  written-logs w o q e f h = by (is_page q.owner || is_there w q.owner)
    where
      by : (b : Bool) → OthersOnlyLog g (record w { parts = if b then put_part w.parts q else w.parts })
      by true = each-part (λ x p. g x ≡ false → AllByRecursion OnlyLogs p.listeners) w q o e f h
      by false = h

  -- calls that are removed
  sifted-quiet : (x : NodeName) (event label : Word) (capture : Bool) (fs : List Frame) → AllByRecursion IsQuietFrame fs →
      AllByRecursion IsQuietFrame (map (without_calls x event label capture) fs)
  sifted-quiet x event label capture [] h = tt
  sifted-quiet x event label capture (an_event u ∷ fs) h =
      (record { visiting = from u.visiting h.0.visiting; cancelled = h.0.cancelled }, sifted-quiet x event label capture fs h.1)
    where
      from : (m : Option Visiting) → AreQuietVisits u.stopped m → AreQuietVisits u.stopped (option_map (without_call x event label capture) m)
      from None i = tt
      from (Some v) i = (λ k. ((i.0 k).0, by (name_eq v.visit.current x) (i.0 k).1), tt)
        where
          by : (b : Bool) → AllByRecursion OnlyLogs v.calls →
              AllByRecursion OnlyLogs (if b then with_listener_removed name_eq x event label capture v.calls else v.calls)
          by true j = all-filter OnlyLogs (λ l. not (is_listener name_eq x event label capture l)) v.calls j
          by false j = j
  sifted-quiet x event label capture (a_notification n ∷ fs) h = (tt, sifted-quiet x event label capture fs h.1)
  sifted-quiet x event label capture (a_microtask o ∷ fs) h = (tt, sifted-quiet x event label capture fs h.1)
  sifted-quiet x event label capture (a_checkpoint c ∷ fs) h = (tt, sifted-quiet x event label capture fs h.1)

  -- a listener that is removed
  pub listener-quiet : (x : NodeName) (event label : Word) (capture : Bool) (s : Live World) → IsQuiet s →
      IsQuiet (without_listener world_documents x event label capture s)
  listener-quiet x event label capture s h = record {
    logs = written-logs s.documents x.owner _ (owner-part_of s.documents x.owner) (λ k. all-filter OnlyLogs (λ l. not (is_listener name_eq x event label
        capture l)) (part_of s.documents x.owner).listeners (h.logs x.owner k)) h.logs;
    frames = sifted-quiet x event label capture s.frames h.frames;
  }

  -- one that is for once
  once-quiet : (x : NodeName) (w : ListenerWords) (s : Live World) → IsQuiet s → IsQuiet (after_once world_documents x w s)
  once-quiet x w s h = by w.once
    where
      by : (b : Bool) → IsQuiet (if b then without_listener world_documents x w.event w.label w.capture s else s)
      by true = listener-quiet x w.event w.label w.capture s h
      by false = h

  -- with a frame
  pub pushed-quiet : (f : Frame) (s : Live World) → IsQuiet s → IsQuietFrame f → IsQuiet (record s { frames = f ∷ s.frames })
  pushed-quiet f s h k = record { logs = h.logs; frames = (k, h.frames) }

  -- what a call leaves
  pub returned-quiet : (f : Frame) (fs : List Frame) → IsQuietFrame f → AllByRecursion IsQuietFrame fs → AllByRecursion IsQuietFrame (returned f ++ fs)
  returned-quiet (an_event u) fs h k = (record { visiting = from u.visiting h.visiting; cancelled = h.cancelled }, k)
    where
      from : (m : Option Visiting) → AreQuietVisits u.stopped m → AreQuietVisits u.stopped (option_map returned_visit m)
      from None i = tt
      from (Some v) i = i
  returned-quiet (a_notification n) fs h k = (tt, k)
  returned-quiet (a_microtask o) fs h k = k
  returned-quiet (a_checkpoint c) fs h k = (tt, k)

  -- ---- small steps

  module _ (s : Live World) (h : IsQuiet s) where
    -- a listener is called
    calling-quiet : (u : UnderWay) (v : Visiting) (l : Listener NodeName) (ls : List (Listener NodeName)) →
        IsQuietEvent (record u { visiting = Some (record v { calls = l ∷ ls }) }) → IsQuiet (calling world_documents s u (record v { calls = ls }) l).0
    calling-quiet u v l ls q =
        let x = v.visit.current in
        let t = after_once world_documents x l.words s in
        let after = once-quiet x l.words s h in
        let called : UnderWay = record u { visiting = Some (record v { calls = ls; called = Some l.words }) } in
        let heard : UnderWay = record u { visiting = Some (record v { calls = ls }) } in
        either-quiet (is_live s.live_listeners x l.words) _ _
        (pushed-quiet (an_event (told_to x.owner called)) t after (told-quiet x.owner called (record {
          visiting = (λ k. let i = q.visiting.0 k in (i.0, i.1.1), tt);
          cancelled = q.cancelled;
        })))
        (pushed-quiet (an_event (acted x.owner (may_cancel u.event l.words) l.words.action heard)) t after
        (acted-quiet x.owner (may_cancel u.event l.words) l.words.action heard (λ k. (q.visiting.0 k).1.0) (refl, tt) (record {
          visiting = (λ k. let i = q.visiting.0 k in (i.0, i.1.1), tt);
          cancelled = q.cancelled;
        })))

    -- an event
    event-quiet : (u : UnderWay) (m : Option Visiting) → IsQuietEvent (record u { visiting = m }) → IsQuiet (event_step world_documents s u m).0
    event-quiet u None q = from u.visits
      where
        from : (vs : List (Visit NodeName)) → IsQuiet (between_visits world_documents s u vs).0
        from [] = h
        from (v ∷ vs) =
            by_cases u.stopped
            (λ k. subst (λ (r : LiveRun (Live World)). IsQuiet r.0) (sym (cond-true u.stopped _ _ k)) h)
            (λ k. subst (λ (r : LiveRun (Live World)). IsQuiet r.0) (sym (cond-false u.stopped _ _ k))
            (pushed-quiet _ s h (record {
              visiting = (
                λ o. (
                  k,
                  all-filter OnlyLogs (hears name_eq u.event v) (part_of s.documents v.current.owner).listeners
                      (h.logs v.current.owner o),
                ),
                tt,
              );
              cancelled = q.cancelled;
            })))
    event-quiet u (Some v) q = from v.calls q
      where
        over : IsQuiet (record s { frames = an_event (record u { visiting = None }) ∷ s.frames })
        over = pushed-quiet (an_event (record u { visiting = None })) s h (record { visiting = tt; cancelled = q.cancelled })

        from : (ls : List (Listener NodeName)) → IsQuietEvent (record u { visiting = Some (record v { calls = ls }) }) →
            IsQuiet (going_on world_documents s u v ls).0
        from [] i = over
        from (l ∷ ls) i = either-quiet v.stopped_now _ _ over (calling-quiet u v l ls i)

    -- a notification
    notification-quiet : (n : Notification) (ks : List ℕ) → IsQuiet (notification_step world_documents s n ks).0
    notification-quiet n [] = from n.slots
      where
        from : (xs : List NodeName) → IsQuiet (firing_at world_documents s n xs).0
        from [] = h
        from (x ∷ xs) = record { logs = h.logs; frames = (record { visiting = tt; cancelled = λ k. absurd (true≢false (sym k)) }, (tt, h.frames)) }
    notification-quiet n (k ∷ ks) =
        let p = part_of s.documents n.owner in
        let logs = written-logs s.documents n.owner _ (owner-part_of s.documents n.owner) (λ k. h.logs n.owner k) h.logs in
        either-quiet (list_any (is_observer n.owner k) s.live_observers && not (is_empty (queue_of p.record_queues k))) _ _
        (record { logs = logs; frames = (tt, h.frames) }) (record { logs = logs; frames = (tt, h.frames) })

    -- a checkpoint
    checkpoint-quiet : (c : Checkpoint) (ts : List Task) → IsQuiet (checkpoint_step world_documents s c ts).0
    checkpoint-quiet c [] = h
    checkpoint-quiet c (notify_task o ∷ ts) = record {
      logs = written-logs s.documents o _ (owner-part_of s.documents o) (λ k. h.logs o k) h.logs;
      frames = (tt, (tt, h.frames));
    }
    checkpoint-quiet c (micro_task o label ∷ ts) =
        either-quiet (first_is_live o s.live_tasks) _ _ (record { logs = h.logs; frames = (tt, (tt, h.frames)) })
        (record { logs = h.logs; frames = (tt, h.frames) })

    -- any frame
    frame-quiet : (f : Frame) → IsQuietFrame f → IsQuiet (frame_step world_documents s f).0
    frame-quiet (an_event u) q = event-quiet u u.visiting q
    frame-quiet (a_notification n) q = notification-quiet n n.observers
    frame-quiet (a_microtask o) q = h
    frame-quiet (a_checkpoint c) q = checkpoint-quiet c s.documents.tasks

  -- one small step
  pub advance-quiet : (s : Live World) → IsQuiet s → IsQuiet (advance world_documents s).0
  advance-quiet s h = from s.frames h.frames
    where
      from : (fs : List Frame) → AllByRecursion IsQuietFrame fs → IsQuiet (advance_in world_documents s fs).0
      from [] q = h
      from (f ∷ fs) q =
          let around : Live World = record s { frames = fs } in
          either-quiet (is_some (caller f)) (still (put_back (returned f) around)) (frame_step world_documents around f)
          (record { logs = h.logs; frames = returned-quiet f fs q.0 q.1 }) (frame-quiet around (record { logs = h.logs; frames = q.1 }) f q.0)
