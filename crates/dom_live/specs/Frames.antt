-- What is under way, the innermost first: events, notifications, microtasks and checkpoints (DOM Standard, 2.9 Dispatching events; 4.3 Mutation
-- observers; HTML Standard, microtask checkpoint).
use Rattle.std.specs.Prelude.{ℕ, Bool, true, false, List, [], ◌∷◌, filter, Option, Some, None, option_map, slice_get, if◌then◌else◌}
use Rattle.dom_base.specs.declared.Owner.{Owner}
use Rattle.dom_base.specs.declared.NodeName.{NodeName}
use Rattle.dom_base.specs.declared.Action.{Action}
use Rattle.dom_base.specs.declared.Action.TheVariants.{Log, Stop, StopNow, Cancel}
use Rattle.dom_model.specs.Names.{Word, owner_eq, name_eq, append_once}
use Rattle.dom_model.specs.Command.{EventWords, ListenerWords}
use Rattle.dom_model.specs.Listeners.{Listener, Visit, with_listener_removed}
use Rattle.dom_model.specs.Trace.{is_of}

-- The visit that is made: the listeners still to be called; the words of the one that is called and has not returned; and the stop immediate
-- propagation flag, which no later visit sees, since it comes with the stop propagation flag (DOM Standard, concept: inner invoke; 2.2: event flags).
pub record Visiting : Type 0 where
  pub visit : Visit NodeName
  pub calls : List (Listener NodeName)
  pub called : Option ListenerWords
  pub stopped_now : Bool

-- An event under way: its words; who dispatched it, if an owner did; the nodes that it visits, and the slot where it is fired, if it is; the visits to
-- come; the visit that is made, if one is; the stop propagation flag and the canceled flag; and the owners who know that it is cancelled: who cancelled
-- it, and who was called since (DOM Standard, concept: dispatch; 2.2: event flags; own rule for who knows).
pub record UnderWay : Type 0 where
  pub event : EventWords
  pub by : Option Owner
  pub nodes : List NodeName
  pub visits : List (Visit NodeName)
  pub visiting : Option Visiting
  pub stopped : Bool
  pub cancelled : Bool
  pub knowing : List Owner

-- A notification: whose; the observers and the slots still to be told; and the observer that is called and has not returned (DOM Standard, notify
-- mutation observers).
pub record Notification : Type 0 where
  pub owner : Owner
  pub observers : List ℕ
  pub slots : List NodeName
  pub called : Option ℕ

-- Whose a checkpoint is: an owner's, who is replied when it is over; the event loop's; or that of the end of input.
pub data Checkpoint : Type 0 where
  asked_by : Owner → Checkpoint
  of_loop : Checkpoint
  of_end : Checkpoint

-- What is under way. Of a microtask the owner is called and has not returned.
pub data Frame : Type 0 where
  an_event : UnderWay → Frame
  a_notification : Notification → Frame
  a_microtask : Owner → Frame
  a_checkpoint : Checkpoint → Frame

-- ---- calls

-- the owner who is called in a visit
abbrev pub visit_caller : Visiting → Option Owner
visit_caller v = option_map (λ w. v.visit.current.owner) v.called

-- in a visit, if one is made
abbrev pub event_caller : Option Visiting → Option Owner
event_caller None = None
event_caller (Some v) = visit_caller v

-- the owner who is called in a frame and has not returned
abbrev pub caller : Frame → Option Owner
caller (an_event u) = event_caller u.visiting
caller (a_notification n) = option_map (λ k. n.owner) n.called
caller (a_microtask o) = Some o
caller (a_checkpoint c) = None

-- whether a call of an owner is under way in a frame
abbrev pub is_called : Owner → Frame → Bool
is_called o f = is_of (owner_eq o) (caller f)

-- an owner's own call of this number, counted from the innermost
abbrev pub own_call : Owner → ℕ → List Frame → Option Frame
own_call o k frames = slice_get (filter (is_called o) frames) k

-- whether an owner dispatched a frame's event
abbrev pub is_dispatch_of : Owner → Frame → Bool
is_dispatch_of o (an_event u) = is_of (owner_eq o) u.by
is_dispatch_of o f = false

-- the visit when its call has returned
abbrev pub returned_visit : Visiting → Visiting
returned_visit v = record v { called = None }

-- what is left of a frame when its call has returned: a microtask is over
abbrev pub returned : Frame → List Frame
returned (an_event u) = an_event (record u { visiting = option_map returned_visit u.visiting }) ∷ []
returned (a_notification n) = a_notification (record n { called = None }) ∷ []
returned (a_microtask o) = []
returned (a_checkpoint c) = a_checkpoint c ∷ []

-- ---- flags

-- an event that an owner cancelled, or was told to be cancelled (DOM Standard, 2.2: set the canceled flag; own rule for who knows)
abbrev pub known_by : Owner → UnderWay → UnderWay
known_by o u = record u { knowing = append_once owner_eq u.knowing o }

-- an owner is called: if the event is cancelled, it knows
abbrev pub told_to : Owner → UnderWay → UnderWay
told_to o u = if u.cancelled then known_by o u else u

-- the visit whose other listeners are stopped
abbrev pub stopped_visit : Visiting → Visiting
stopped_visit v = record v { stopped_now = true }

-- the flags after what a listener of an owner does; `cancels` says whether it may cancel this event (DOM Standard, 2.2: event flags, set the canceled
-- flag)
abbrev pub acted : Owner → Bool → Action → UnderWay → UnderWay
acted o cancels Log u = u
acted o cancels Stop u = record u { stopped = true }
acted o cancels StopNow u = record u { stopped = true; visiting = option_map stopped_visit u.visiting }
acted o cancels Cancel u = if cancels then known_by o (record u { cancelled = true }) else u

-- ---- removal

-- of a visit the calls without a listener of a node (DOM Standard, concept: inner invoke, the listener's removed flag)
abbrev pub without_call : NodeName → Word → Word → Bool → Visiting → Visiting
without_call x event label capture v = record v {
  calls = if name_eq v.visit.current x then with_listener_removed name_eq x event label capture v.calls else v.calls;
}

-- of a frame (DOM Standard, concept: inner invoke)
abbrev pub without_calls : NodeName → Word → Word → Bool → Frame → Frame
without_calls x event label capture (an_event u) = an_event (record u { visiting = option_map (without_call x event label capture) u.visiting })
without_calls x event label capture f = f
