-- One small step of what is under way: a visit begins, a listener is called, a visit is over; an observer is told, a slot's event begins; a task begins;
-- a frame is over (DOM Standard, 2.9 Dispatching events; 4.3 Mutation observers; HTML Standard, microtask checkpoint).
use Rattle.std.specs.Prelude.{ℕ, Bool, false, not, ◌&&◌, ◌==◌, List, [], ◌∷◌, ◌++◌, filter, map, Option, Some, None, slice_set, is_some}
use Rattle.std.specs.Prelude.{if◌then◌else◌}
use Rattle.std.specs.List.{list_any}
use Rattle.dom_base.specs.declared.Owner.{Owner}
use Rattle.dom_base.specs.declared.NodeName.{NodeName}
use Rattle.dom_model.specs.Names.{Word, name_eq, is_empty}
use Rattle.dom_model.specs.Command.{EventWords, ListenerWords}
use Rattle.dom_model.specs.Listeners.{Listener, Visit, hears, line_of, may_cancel, with_listener_removed}
use Rattle.dom_model.specs.Observers.{without_transients}
use Rattle.dom_model.specs.Output.{says, replied, nothing, a_truth, event_seen, micro_ran}
use Rattle.dom_model.specs.Part.{queue_of}
use Rattle.dom_model.specs.Turns.{slotchange, records_of}
use Rattle.dom_model.specs.World.{Task, micro_task, notify_task}
use Rattle.dom_live.specs.Lines.{LiveRun, LiveOutput, written, calls, at_event, at_observer, at_microtask, still}
use Rattle.dom_live.specs.Frames.{Visiting, UnderWay, Notification, Checkpoint, asked_by, of_loop, of_end, Frame, an_event, a_notification, a_microtask}
use Rattle.dom_live.specs.Frames.{a_checkpoint, caller, returned, told_to, acted, without_calls}
use Rattle.dom_live.specs.Documents.{Documents, Live, is_live, is_entry_of, first_is_live, without_first}

-- whether an observer of an owner is an entry
abbrev pub is_observer : Owner → ℕ → Owner × ℕ → Bool
is_observer o k e = is_entry_of o e && (e.1 == k)

module _ {S : Type 0} where
  -- with a frame, the innermost
  abbrev pub pushed : Frame → Live S → Live S
  pushed f s = record s { frames = f ∷ s.frames }

  -- with the frames that are left of one
  abbrev pub put_back : List Frame → Live S → Live S
  put_back fs s = record s { frames = fs ++ s.frames }

-- the event that begins with these visits; it is told whose it is, beside the nodes that it visits (DOM Standard, concept: dispatch)
abbrev pub beginning : Option Owner → List NodeName → EventWords → List (Visit NodeName) → UnderWay
beginning by slot e visits = record {
  event = e;
  by = by;
  nodes = slot ++ map (λ v. v.current) visits;
  visits = visits;
  visiting = None;
  stopped = false;
  cancelled = false;
  knowing = [];
}

-- an event that an owner dispatches, or nobody (DOM Standard, concept: dispatch)
abbrev pub dispatched_by : Option Owner → EventWords → List (Visit NodeName) → UnderWay
dispatched_by by e visits = beginning by [] e visits

-- the event of a slot (DOM Standard, concept: signal a slot change)
abbrev pub fired_at : NodeName → List (Visit NodeName) → UnderWay
fired_at x visits = beginning None (x ∷ []) slotchange visits

-- who dispatched an event is told whether it was cancelled (DOM Standard, dispatchEvent())
abbrev pub answered : UnderWay → Option Owner → List LiveOutput
answered u None = []
answered u (Some o) = written (says o (replied (a_truth (not u.cancelled)))) ∷ []

-- who asked for a checkpoint is told that it is over
abbrev pub checked : Checkpoint → List LiveOutput
checked (asked_by o) = written (says o (replied nothing)) ∷ []
checked of_loop = []
checked of_end = []

module _ {S : Type 0} (d : Documents S) where
  -- Listeners are removed from their node's list, from what is live, and from what every visit of the node still has to call (DOM Standard,
  -- concept: remove an event listener; inner invoke, the removed flag).
  abbrev pub without_listener : NodeName → Word → Word → Bool → Live S → Live S
  without_listener x event label capture s =
      let p = d.part s.documents x.owner in
      record s {
        documents = d.with_part s.documents (record p { listeners = with_listener_removed name_eq x event label capture p.listeners });
        live_listeners = with_listener_removed name_eq x event label capture s.live_listeners;
        frames = map (without_calls x event label capture) s.frames;
      }

  -- one that is for once goes as it is called (DOM Standard, concept: inner invoke)
  abbrev pub after_once : NodeName → ListenerWords → Live S → Live S
  after_once x w s = if w.once then without_listener x w.event w.label w.capture s else s

  -- A listener is called in the visit of an event: its line comes; and then its action, or, where it is live, the call of its owner. The frames of s
  -- are those around the event; what the visit still has to call has no second listener with these words (DOM Standard, concept: inner invoke).
  abbrev pub calling : Live S → UnderWay → Visiting → Listener NodeName → LiveRun (Live S)
  calling s u v l =
      let x = v.visit.current in
      let seen = written (says x.owner (event_seen (line_of v.visit l.words))) in
      let called = record u { visiting = Some (record v { called = Some l.words }) } in
      if is_live s.live_listeners x l.words
      then (pushed (an_event (told_to x.owner called)) (after_once x l.words s), seen ∷ calls x.owner (at_event u.event u.cancelled) ∷ [])
      else (pushed (an_event (acted x.owner (may_cancel u.event l.words) l.words.action (record u { visiting = Some v }))) (after_once x l.words s), seen ∷ [])

  -- in a visit: where the others are stopped, or no listener is left, it is over (DOM Standard, concept: inner invoke)
  abbrev pub going_on : Live S → UnderWay → Visiting → List (Listener NodeName) → LiveRun (Live S)
  going_on s u v [] = still (pushed (an_event (record u { visiting = None })) s)
  going_on s u v (l ∷ ls) =
      if v.stopped_now then still (pushed (an_event (record u { visiting = None })) s)
      else calling s u (record v { calls = ls }) l

  -- a visit begins, with the listeners that fit of the node's list at this moment (DOM Standard, concept: invoke)
  abbrev pub begun_visit : S → EventWords → Visit NodeName → Visiting
  begun_visit s e v = record {
    visit = v;
    calls = filter (hears name_eq e v) (d.part s v.current.owner).listeners;
    called = None;
    stopped_now = false;
  }

  -- between visits: where the event is stopped, or no visit is left, it is over (DOM Standard, concept: dispatch)
  abbrev pub between_visits : Live S → UnderWay → List (Visit NodeName) → LiveRun (Live S)
  between_visits s u [] = (s, answered u u.by)
  between_visits s u (v ∷ vs) =
      if u.stopped then (s, answered u u.by)
      else still (pushed (an_event (record u { visits = vs; visiting = Some (begun_visit s.documents u.event v) })) s)

  -- an event under way
  abbrev pub event_step : Live S → UnderWay → Option Visiting → LiveRun (Live S)
  event_step s u None = between_visits s u u.visits
  event_step s u (Some v) = going_on s u v v.calls

  -- one observer: its records of this moment are told, its queue is emptied, and its transient registrations go; where there were records and it is
  -- live, its owner is called (DOM Standard, notify mutation observers)
  abbrev pub telling : Live S → Notification → ℕ → LiveRun (Live S)
  telling s n k =
      let p = d.part s.documents n.owner in
      let q = record p { record_queues = slice_set p.record_queues k []; registrations = without_transients (k ∷ []) p.registrations } in
      let is_called = list_any (is_observer n.owner k) s.live_observers && not (is_empty (queue_of p.record_queues k)) in
      let told = record s { documents = d.with_part s.documents q } in
      let lines = map written (records_of p k) in
      if is_called then (pushed (a_notification (record n { called = Some k })) told, lines ++ calls n.owner (at_observer k) ∷ [])
      else (pushed (a_notification n) told, lines)

  -- `slotchange` at each slot, and then it is over (DOM Standard, notify mutation observers)
  abbrev pub firing_at : Live S → Notification → List NodeName → LiveRun (Live S)
  firing_at s n [] = still s
  firing_at s n (x ∷ xs) =
      let event = fired_at x (d.visits s.documents x None slotchange) in
      still (pushed (an_event event) (pushed (a_notification (record n { slots = xs })) s))

  -- a notification: first the observers
  abbrev pub notification_step : Live S → Notification → List ℕ → LiveRun (Live S)
  notification_step s n [] = firing_at s n n.slots
  notification_step s n (k ∷ ks) = telling s (record n { observers = ks }) k

  -- A task begins: a microtask prints its label, and where it is live calls its owner; a notification takes the pending observers and the signalled
  -- slots of its owner (DOM Standard, notify mutation observers; HTML Standard, microtask).
  abbrev pub starting : Task → Live S → LiveRun (Live S)
  starting (micro_task o label) s =
      let ran = written (says o (micro_ran label)) in
      let rest = record s { live_tasks = without_first o s.live_tasks } in
      if first_is_live o s.live_tasks then (pushed (a_microtask o) rest, ran ∷ calls o at_microtask ∷ []) else (rest, ran ∷ [])
  starting (notify_task o) s =
      let p = d.part s.documents o in
      let n : Notification = record { owner = o; observers = p.pending; slots = d.slots s.documents o; called = None } in
      still (pushed (a_notification n) (record s { documents = d.with_part (d.without_slots s.documents o) (record p { pending = [] }) }))

  -- a checkpoint: the first task begins, or it is over (HTML Standard, perform a microtask checkpoint)
  abbrev pub checkpoint_step : Live S → Checkpoint → List Task → LiveRun (Live S)
  checkpoint_step s c [] = (s, checked c)
  checkpoint_step s c (t ∷ ts) = starting t (pushed (a_checkpoint c) (record s { documents = d.with_tasks s.documents ts }))

  -- a frame whose call, if there was one, has returned; the frames of s are those around it
  abbrev pub frame_step : Live S → Frame → LiveRun (Live S)
  frame_step s (an_event u) = event_step s u u.visiting
  frame_step s (a_notification n) = notification_step s n n.observers
  frame_step s (a_microtask o) = still s
  frame_step s (a_checkpoint c) = checkpoint_step s c (d.tasks s.documents)

  -- one small step of the innermost frame; a call that is under way returns
  abbrev pub advance_in : Live S → List Frame → LiveRun (Live S)
  advance_in s [] = still s
  advance_in s (f ∷ fs) =
      let around = record s { frames = fs } in
      if is_some (caller f) then still (put_back (returned f) around) else frame_step around f

  -- one small step
  abbrev pub advance : Live S → LiveRun (Live S)
  advance s = advance_in s s.frames
