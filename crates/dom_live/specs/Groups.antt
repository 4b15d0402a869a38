-- What a group of owners has of live documents, and which small steps are its own.
use Rattle.std.specs.Prelude.{Bool, true, false, ◌&&◌, ◌||◌, List, [], ◌∷◌, filter, flat_map, Option, Some, None, if◌then◌else◌}
use Rattle.std.specs.List.{list_any}
use Rattle.dom_base.specs.declared.Owner.{Owner}
use Rattle.dom_base.specs.declared.NodeName.{NodeName}
use Rattle.dom_model.specs.Listeners.{Listener, Visit}
use Rattle.dom_model.specs.Groups.{group_turn, is_task_of}
use Rattle.dom_model.specs.Trace.{is_of, owner_of_output}
use Rattle.dom_model.specs.World.{Task}
use Rattle.dom_live.specs.Lines.{LiveOutput, written, calls, loop_busy, LiveRun}
use Rattle.dom_live.specs.Frames.{Visiting, UnderWay, Checkpoint, asked_by, of_loop, of_end, Frame, an_event, a_notification, a_microtask}
use Rattle.dom_live.specs.Frames.{a_checkpoint}
use Rattle.dom_live.specs.Documents.{Live}

module _ (group : Owner → Bool) where
  -- whether a visit is at a node of the group
  abbrev pub is_own_visit : Visit NodeName → Bool
  is_own_visit v = group v.current.owner

  -- whether a node is
  abbrev pub is_own_node : NodeName → Bool
  is_own_node x = group x.owner

  -- ---- frames

  -- An event is the group's where a member dispatched it, or it visits a node of a member;
  abbrev pub is_own_event : UnderWay → Bool
  is_own_event u = is_of group u.by || list_any is_own_node u.nodes

  -- a checkpoint where a member asked for it, or the input is at its end;
  abbrev pub is_own_checkpoint : Checkpoint → Bool
  is_own_checkpoint (asked_by o) = group o
  is_own_checkpoint of_loop = false
  is_own_checkpoint of_end = true

  -- a notification and a microtask where they are a member's.
  abbrev pub is_own_frame : Frame → Bool
  is_own_frame (an_event u) = is_own_event u
  is_own_frame (a_notification n) = group n.owner
  is_own_frame (a_microtask o) = group o
  is_own_frame (a_checkpoint c) = is_own_checkpoint c

  -- Of an event the group has the visits at its own nodes;
  abbrev pub own_visiting : Option Visiting → Option Visiting
  own_visiting None = None
  own_visiting (Some v) = if is_own_visit v.visit then Some v else None

  -- the stop propagation flag, but while another's node is visited;
  abbrev pub own_stopped : Option Visiting → Bool → Bool
  own_stopped None stopped = stopped
  own_stopped (Some v) stopped = is_own_visit v.visit && stopped

  -- and the canceled flag where a member knows of it.
  abbrev pub own_event : UnderWay → UnderWay
  own_event u = record {
    event = u.event;
    by = group_turn group u.by;
    nodes = filter is_own_node u.nodes;
    visits = filter is_own_visit u.visits;
    visiting = own_visiting u.visiting;
    stopped = own_stopped u.visiting u.stopped;
    cancelled = list_any group u.knowing;
    knowing = filter group u.knowing;
  }

  -- a frame of the group's, as the group has it
  abbrev pub kept_frame : Frame → Frame
  kept_frame (an_event u) = an_event (own_event u)
  kept_frame f = f

  -- a frame, if it is the group's
  abbrev pub own_frame : Frame → List Frame
  own_frame f = if is_own_frame f then kept_frame f ∷ [] else []

  -- the group's frames
  abbrev pub own_frames : List Frame → List Frame
  own_frames frames = flat_map own_frame frames

  -- ---- live documents

  -- whether a listener is at a node of the group
  abbrev pub is_own_listener : Listener NodeName → Bool
  is_own_listener l = group l.node.owner

  -- whether an entry is a member's
  abbrev pub is_own_entry : {A : Type 0} → Owner × A → Bool
  is_own_entry e = group e.0

  -- whether a line of output is
  abbrev pub is_own_output : LiveOutput → Bool
  is_own_output (written l) = is_of group (owner_of_output l)
  is_own_output (calls o words) = group o
  is_own_output loop_busy = false

  -- the lines of output of the group
  abbrev pub own_outputs : List LiveOutput → List LiveOutput
  own_outputs lines = filter is_own_output lines

  -- what the group has of live documents, whose documents it has by `view`
  abbrev pub own_live : {S V : Type 0} → (S → V) → Live S → Live V
  own_live view s = record {
    documents = view s.documents;
    live_listeners = filter is_own_listener s.live_listeners;
    live_observers = filter is_own_entry s.live_observers;
    live_tasks = filter is_own_entry s.live_tasks;
    frames = own_frames s.frames;
    is_over = s.is_over;
  }

  -- and of a run
  abbrev pub own_run : {S V : Type 0} → (S → V) → LiveRun (Live S) → LiveRun (Live V)
  own_run view r = (own_live view r.0, own_outputs r.1)

  -- ---- small steps

  -- The group's own small steps, those that begin, go on with or end something of its own: of an event a visit at its own nodes, or the end;
  abbrev pub is_next_own : Bool → List (Visit NodeName) → Bool
  is_next_own stopped [] = true
  is_next_own stopped (v ∷ vs) = stopped || is_own_visit v

  -- of the visit that is made, or of what comes next
  abbrev pub is_own_going : UnderWay → Option Visiting → Bool
  is_own_going u None = is_next_own u.stopped u.visits
  is_own_going u (Some v) = is_own_visit v.visit

  -- of a checkpoint a task of its own, or the end;
  abbrev pub is_first_own : List Task → Bool
  is_first_own [] = true
  is_first_own (t ∷ ts) = is_task_of group t

  -- and all of a notification or a microtask of its own.
  abbrev pub is_own_step_of : List Task → Frame → Bool
  is_own_step_of tasks (an_event u) = is_own_event u && is_own_going u u.visiting
  is_own_step_of tasks (a_notification n) = group n.owner
  is_own_step_of tasks (a_microtask o) = group o
  is_own_step_of tasks (a_checkpoint c) = is_own_checkpoint c && is_first_own tasks

  -- whether the next small step is
  abbrev pub is_own_step : List Task → List Frame → Bool
  is_own_step tasks [] = true
  is_own_step tasks (f ∷ fs) = is_own_step_of tasks f
