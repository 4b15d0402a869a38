-- Where nothing is live nobody is called, and behind each line nothing is under way.
use Rattle.dom_base.proofs.Std.{◌≡◌, ℕ, zero, suc, Bool, true, false, IsTrue, not, ◌&&◌}
use Rattle.dom_base.proofs.Std.{List, [], ◌∷◌, map, filter, Option, Some, None, is_some, option_map}
use Rattle.dom_base.proofs.Std.{refl, sym, ap, ◌∙◌, subst, true≢false, cond, cond-true, cond-false, if◌then◌else◌, list_any, AllByRecursion, find}
use Rattle.dom_model.proofs.Model.{Owner, NodeName, Word, World, Task, micro_task, notify_task, part_of, named, Command, Refusal, refusal, Visit, Listener}
use Rattle.dom_model.proofs.Model.{ListenerWords, Action, Log, Stop, StopNow, Cancel, name_eq, is_listener, first_world}
use Rattle.dom_model.specs.Names.{is_empty}
use Rattle.dom_model.specs.Listeners.{may_cancel}
use Rattle.dom_model.specs.Part.{queue_of}
use Rattle.std.specs.Option.{option_map_or}
use Rattle.dom_worlds.proofs.ListLemmas.{by_cases, all-append}
use Rattle.dom_live.specs.Lines.{LiveCommand, plain, listen_live, observer_live, micro_live, prevent}
use Rattle.dom_live.specs.Lines.{stop, stop_now, prevented, give_back, LiveLine, ownerless}
use Rattle.dom_live.specs.Lines.{wordless, said, checkpoint, LiveRun, still, unless_denied, loop_busy}
use Rattle.dom_live.specs.Frames.{Visiting, UnderWay, Notification, Checkpoint, Frame}
use Rattle.dom_live.specs.Frames.{an_event, a_notification, a_microtask, a_checkpoint, caller, event_caller}
use Rattle.dom_live.specs.Frames.{visit_caller, returned, acted, stopped_visit, without_call, without_calls, of_loop, own_call}
use Rattle.dom_live.specs.Documents.{Live, at_rest, world_documents, is_live, is_entry_of, first_is_live, without_first}
use Rattle.dom_live.specs.SmallSteps.{put_back, pushed, advance, advance_in, frame_step, event_step, between_visits, going_on, calling, firing_at}
use Rattle.dom_live.specs.SmallSteps.{notification_step, checkpoint_step, without_listener, after_once, is_observer}
use Rattle.dom_live.specs.Runs.{is_resting, frames_rest, frames_left, going}
use Rattle.dom_live.specs.Machine.{taken, live_step, live_lines, obeyed, plain_refusal, acting, act_refusal, return_refusal, is_under_way}
use Rattle.dom_live.specs.Laws.{makes_nothing_live, NothingWaits}
use Rattle.dom_live.proofs.RunEnds.{runs-end}

-- nothing is live, and nobody is called
record IsStill (s : Live World) : Type 0 where
  listeners : s.live_listeners ≡ []
  observers : s.live_observers ≡ []
  tasks : AllByRecursion (λ (e : Owner × Bool). e.1 ≡ false) s.live_tasks
  frames : AllByRecursion (λ f. caller f ≡ None) s.frames
  going_on : s.is_over ≡ false

-- one run or another
either-still : (b : Bool) (r t : LiveRun (Live World)) → IsStill r.0 → IsStill t.0 → IsStill (cond b r t).0
either-still true r t h k = h
either-still false r t h k = k

-- with a frame
pushed-still : (f : Frame) (s : Live World) → IsStill s → caller f ≡ None → IsStill (pushed f s)
pushed-still f s h c = record { listeners = h.listeners; observers = h.observers; tasks = h.tasks; frames = (c, h.frames); going_on = h.going_on }

-- with other documents
other-still : (s : Live World) (w : World) → IsStill s → IsStill (record s { documents = w })
other-still s w h = record { listeners = h.listeners; observers = h.observers; tasks = h.tasks; frames = h.frames; going_on = h.going_on }

-- calls that are removed
sifted-still : (x : NodeName) (event label : Word) (capture : Bool) (fs : List Frame) → AllByRecursion (λ f. caller f ≡ None) fs →
    AllByRecursion (λ f. caller f ≡ None) (map (without_calls x event label capture) fs)
sifted-still x event label capture [] h = tt
sifted-still x event label capture (an_event u ∷ fs) h = (from u.visiting h.0, sifted-still x event label capture fs h.1)
  where
    from : (m : Option Visiting) → event_caller m ≡ None → event_caller (option_map (without_call x event label capture) m) ≡ None
    from None c = c
    from (Some v) c = c
sifted-still x event label capture (a_notification n ∷ fs) h = (h.0, sifted-still x event label capture fs h.1)
sifted-still x event label capture (a_microtask o ∷ fs) h = (h.0, sifted-still x event label capture fs h.1)
sifted-still x event label capture (a_checkpoint c ∷ fs) h = (h.0, sifted-still x event label capture fs h.1)

-- a listener that is removed
listener-still : (x : NodeName) (event label : Word) (capture : Bool) (s : Live World) → IsStill s →
    IsStill (without_listener world_documents x event label capture s)
listener-still x event label capture s h = record {
  listeners = ap (filter (λ l. not (is_listener name_eq x event label capture l))) h.listeners;
  observers = h.observers;
  tasks = h.tasks;
  frames = sifted-still x event label capture s.frames h.frames;
  going_on = h.going_on;
}

-- one that is for once
once-still : (x : NodeName) (w : ListenerWords) (s : Live World) → IsStill s → IsStill (after_once world_documents x w s)
once-still x w s h = by w.once
  where
    by : (b : Bool) → IsStill (if b then without_listener world_documents x w.event w.label w.capture s else s)
    by true = listener-still x w.event w.label w.capture s h
    by false = h

-- acts call nobody
acted-still : (o : Owner) (may : Bool) (a : Action) (u : UnderWay) → event_caller u.visiting ≡ None → event_caller (acted o may a u).visiting ≡ None
acted-still o may Log u c = c
acted-still o may Stop u c = c
acted-still o may StopNow u c = from u.visiting c
  where
    from : (m : Option Visiting) → event_caller m ≡ None → event_caller (option_map stopped_visit m) ≡ None
    from None c = c
    from (Some v) c = c
acted-still o true Cancel u c = c
acted-still o false Cancel u c = c

-- no waiting microtask is live
pub none-live : (o : Owner) (es : List (Owner × Bool)) → AllByRecursion (λ (e : Owner × Bool). e.1 ≡ false) es → first_is_live o es ≡ false
none-live o [] h = refl
none-live o (e ∷ es) h =
    by_cases (is_entry_of o e)
    (λ k. ap (λ m. option_map_or (λ (e : Owner × Bool). e.1) m false) (cond-true (is_entry_of o e) (Some e) (find (is_entry_of o) es) k) ∙ h.0)
    (λ k. ap (λ m. option_map_or (λ (e : Owner × Bool). e.1) m false) (cond-false (is_entry_of o e) (Some e) (find (is_entry_of o) es) k)
    ∙ none-live o es h.1)

-- nor are those behind the first
pub without-live : (o : Owner) (es : List (Owner × Bool)) → AllByRecursion (λ (e : Owner × Bool). e.1 ≡ false) es →
    AllByRecursion (λ (e : Owner × Bool). e.1 ≡ false) (without_first o es)
without-live o [] h = tt
without-live o (e ∷ es) h =
    by_cases (is_entry_of o e)
    (λ k. subst (AllByRecursion (λ (e : Owner × Bool). e.1 ≡ false)) (sym (cond-true (is_entry_of o e) es (e ∷ without_first o es) k)) h.1)
    (λ k. subst (AllByRecursion (λ (e : Owner × Bool). e.1 ≡ false)) (sym (cond-false (is_entry_of o e) es (e ∷ without_first o es) k))
    (h.0, without-live o es h.1))

-- ---- small steps

module _ (s : Live World) (h : IsStill s) where
  -- a listener is called, and acts
  calling-still : (u : UnderWay) (v : Visiting) (l : Listener NodeName) → visit_caller v ≡ None → IsStill (calling world_documents s u v l).0
  calling-still u v l c =
      let x = v.visit.current in
      subst (λ (r : LiveRun (Live World)). IsStill r.0)
      (sym (cond-false (is_live s.live_listeners x l.words) _ _ (ap (λ ls. is_live ls x l.words) h.listeners)))
      (pushed-still _ (after_once world_documents x l.words s) (once-still x l.words s h)
      (acted-still x.owner (may_cancel u.event l.words) l.words.action (record u { visiting = Some v }) c))

  -- an event
  event-still : (u : UnderWay) (m : Option Visiting) → event_caller m ≡ None → IsStill (event_step world_documents s u m).0
  event-still u None c = from u.visits
    where
      from : (vs : List (Visit NodeName)) → IsStill (between_visits world_documents s u vs).0
      from [] = h
      from (v ∷ vs) = either-still u.stopped _ _ h (pushed-still _ s h refl)
  event-still u (Some v) c = from v.calls
    where
      from : (ls : List (Listener NodeName)) → IsStill (going_on world_documents s u v ls).0
      from [] = pushed-still _ s h refl
      from (l ∷ ls) = either-still v.stopped_now _ _ (pushed-still _ s h refl) (calling-still u (record v { calls = ls }) l c)

  -- a notification
  notification-still : (n : Notification) (ks : List ℕ) → n.called ≡ None → IsStill (notification_step world_documents s n ks).0
  notification-still n [] c = from n.slots
    where
      from : (xs : List NodeName) → IsStill (firing_at world_documents s n xs).0
      from [] = h
      from (x ∷ xs) = pushed-still _ _ (pushed-still (a_notification (record n { slots = xs })) s h (ap (option_map (λ k. n.owner)) c)) refl
  notification-still n (k ∷ ks) c =
      let some = not (is_empty (queue_of (part_of s.documents n.owner).record_queues k)) in
      subst (λ (r : LiveRun (Live World)). IsStill r.0)
      (sym (cond-false (list_any (is_observer n.owner k) s.live_observers && some) _ _ (ap (λ es. list_any (is_observer n.owner k) es && some) h.observers)))
      (pushed-still _ _ (other-still s _ h) (ap (option_map (λ k. n.owner)) c))

  -- a checkpoint
  checkpoint-still : (c : Checkpoint) (ts : List Task) → IsStill (checkpoint_step world_documents s c ts).0
  checkpoint-still c [] = h
  checkpoint-still c (notify_task o ∷ ts) = record {
    listeners = h.listeners;
    observers = h.observers;
    tasks = h.tasks;
    frames = (refl, (refl, h.frames));
    going_on = h.going_on;
  }
  checkpoint-still c (micro_task o label ∷ ts) =
      subst (λ (r : LiveRun (Live World)). IsStill r.0) (sym (cond-false (first_is_live o s.live_tasks) _ _ (none-live o s.live_tasks h.tasks)))
      (record {
        listeners = h.listeners;
        observers = h.observers;
        tasks = without-live o s.live_tasks h.tasks;
        frames = (refl, h.frames);
        going_on = h.going_on;
      })

  -- any frame
  frame-still : (f : Frame) → caller f ≡ None → IsStill (frame_step world_documents s f).0
  frame-still (an_event u) c = event-still u u.visiting c
  frame-still (a_notification n) c = notification-still n n.observers (by n.called c)
    where
      by : (m : Option ℕ) → option_map (λ k. n.owner) m ≡ None → m ≡ None
      by None c = refl
      by (Some k) c = cc
  frame-still (a_microtask o) c = h
  frame-still (a_checkpoint x) c = checkpoint-still x s.documents.tasks

-- one small step
advance-still : (s : Live World) → IsStill s → IsStill (advance world_documents s).0
advance-still s h = from s.frames h.frames
  where
    around : List Frame → Live World
    around fs = record s { frames = fs }

    from : (fs : List Frame) → AllByRecursion (λ f. caller f ≡ None) fs → IsStill (advance_in world_documents s fs).0
    from [] c = h
    from (f ∷ fs) c =
        subst (λ (r : LiveRun (Live World)). IsStill r.0)
        (sym (cond-false (is_some (caller f)) (still (put_back (returned f) (around fs))) (frame_step world_documents (around fs) f) (ap is_some c.0)))
        (frame-still (around fs)
        (record { listeners = h.listeners; observers = h.observers; tasks = h.tasks; frames = c.1; going_on = h.going_on }) f c.0)

-- many
steps-still : (n : ℕ) (s : Live World) → IsStill s → IsStill (going world_documents n s).0
steps-still zero s h = h
steps-still (suc n) s h =
    either-still (is_resting s) (still s) _ h (steps-still n (advance world_documents s).0 (advance-still s h))

-- ---- lines

module _ (s : Live World) (h : IsStill s) (rests : s.frames ≡ []) (o : Owner) where
  -- a refusal, or what is accepted
  unless-still : (m : Option Refusal) (run : LiveRun (Live World)) → IsStill run.0 → IsStill (unless_denied o m s run).0
  unless-still None run f = f
  unless-still (Some r) run f = h

  -- an act is refused, since nobody is called
  acting-still : (a : Action) (k : ℕ) → IsStill (acting world_documents s o a k).0
  acting-still a k = from s.frames rests _
    where
      from : (fs : List Frame) → fs ≡ [] → (run : LiveRun (Live World)) → IsStill (unless_denied o (act_refusal (own_call o k fs)) s run).0
      from [] e run = h
      from (f ∷ fs) e run = cc

  -- and so is a return
  return-still : (run : LiveRun (Live World)) → IsStill (unless_denied o (return_refusal o s.frames) s run).0
  return-still run = subst (λ fs. IsStill (unless_denied o (return_refusal o fs) s run).0) (sym rests) h

  -- any command
  command-still : (c : LiveCommand) → makes_nothing_live (said o c) ≡ true → IsStill (obeyed world_documents s o c).0
  command-still (plain c) f = of_protocol c
    where
      of_protocol : (c : Command) → IsStill (obeyed world_documents s o (plain c)).0
      of_protocol (Command.dispatch x e r) = unless-still (plain_refusal world_documents s o (Command.dispatch x e r)) _ (pushed-still _ s h refl)
      of_protocol (Command.unlisten x event label capture) =
          unless-still (refusal s.documents o (Command.unlisten x event label capture)) _
          (listener-still (named (part_of s.documents o) x) event label capture s h)
      of_protocol (Command.micro label) =
          unless-still (refusal s.documents o (Command.micro label)) _ (record {
            listeners = h.listeners;
            observers = h.observers;
            tasks = all-append (λ (e : Owner × Bool). e.1 ≡ false) s.live_tasks ((o, false) ∷ []) h.tasks (refl, tt);
            frames = h.frames;
            going_on = h.going_on;
          })
      of_protocol Command.end_turn = unless-still (plain_refusal world_documents s o Command.end_turn) _ (pushed-still _ s h refl)
      of_protocol c = unless-still (refusal s.documents o c) _ (other-still s _ h)
  command-still (listen_live x w) f = absurd (true≢false (sym f))
  command-still observer_live f = absurd (true≢false (sym f))
  command-still (micro_live label) f = absurd (true≢false (sym f))
  command-still (prevent k) f = acting-still Cancel k
  command-still (stop k) f = acting-still Stop k
  command-still (stop_now k) f = acting-still StopNow k
  command-still (prevented k) f = unless-still (act_refusal (own_call o k s.frames)) _ h
  command-still give_back f = return-still _

-- any line
line-still : (s : Live World) → IsStill s → s.frames ≡ [] → (l : LiveLine) → IsTrue (makes_nothing_live l) → IsStill (taken world_documents s l).0
line-still s h rests ownerless f = h
line-still s h rests (wordless o) f = h
line-still s h rests (said o c) f = command-still s h rests o c f
line-still s h rests checkpoint f =
    either-still (is_under_way s.frames) (s, loop_busy ∷ []) (still (pushed (a_checkpoint of_loop) s)) h (pushed-still (a_checkpoint of_loop) s h refl)

-- and what it sets going
step-still : (s : Live World) → IsStill s → s.frames ≡ [] → (l : LiveLine) → IsTrue (makes_nothing_live l) → IsStill (live_step world_documents s l).0
step-still s h rests l f =
    let t = (taken world_documents s l).0 in steps-still (frames_left world_documents t.frames t) t (line-still s h rests l f)

-- behind which nothing is under way
step-rests : (s : Live World) → IsStill s → s.frames ≡ [] → (l : LiveLine) → IsTrue (makes_nothing_live l) → (live_step world_documents s l).0.frames ≡ []
step-rests s h rests l f = by end.frames after.frames (sym (ap (λ b. frames_rest b end.frames) after.going_on) ∙ runs-end (taken world_documents s l).0)
  where
    end : Live World
    end = (live_step world_documents s l).0

    after : IsStill end
    after = step-still s h rests l f

    by : (fs : List Frame) → AllByRecursion (λ f. caller f ≡ None) fs → frames_rest false fs ≡ true → fs ≡ []
    by [] c r = refl
    by (f ∷ fs) c r = absurd (true≢false (sym r ∙ ap (λ m. is_some m && not false) c.0))

-- all lines
lines-rest : (ls : List LiveLine) (s : Live World) → IsStill s → s.frames ≡ [] → AllByRecursion (λ l. IsTrue (makes_nothing_live l)) ls →
    (live_lines world_documents s ls).0.frames ≡ []
lines-rest [] s h rests f = rests
lines-rest (l ∷ ls) s h rests f =
    lines-rest ls (live_step world_documents s l).0 (step-still s h rests l f.0) (step-rests s h rests l f.0) f.1

-- the law
pub nothing-waits : NothingWaits
nothing-waits ls f =
    lines-rest ls (at_rest first_world) (record { listeners = refl; observers = refl; tasks = tt; frames = tt; going_on = refl }) refl f
