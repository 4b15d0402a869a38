-- Frames of the code, seen as those of the definition, but for what stands there for the theorem alone.
use Rattle.std.specs.Prelude.{Bool, ◌&&◌, [], map, option_map}
use Rattle.std.specs.Bool.{beq}
use Rattle.dom_base.specs.declared.NodeName.{NodeName}
use Rattle.dom_model.specs.Listeners as model
use Rattle.dom_model.specs.Command as words
use Rattle.dom_model.specs.Names.{Word, text_eq}
use Rattle.dom_model.specs.World as world
use Rattle.dom_live.specs.Frames as live
use Rattle.dom_reader.specs.declared.line.ListenerWords.{ListenerWords}
use Rattle.dom_reader.specs.Views.{listener_view, event_view}
use Rattle.dom_callbacks.specs.declared.visits.Visit.{Visit}
use Rattle.dom_callbacks.specs.declared.visits.VisitUnderWay.{VisitUnderWay}
use Rattle.dom_callbacks.specs.declared.frames.EventUnderWay.{EventUnderWay}
use Rattle.dom_callbacks.specs.declared.frames.Notification.{Notification}
use Rattle.dom_callbacks.specs.declared.frames.Checkpoint.{Checkpoint}
use Rattle.dom_callbacks.specs.declared.frames.Checkpoint.TheVariants.{AskedBy, OfLoop, OfEnd}
use Rattle.dom_callbacks.specs.declared.frames.Frame.{Frame}
use Rattle.dom_callbacks.specs.declared.frames.Frame.TheVariants as frames
use Rattle.dom_callbacks.specs.declared.documents.Task.{Task}
use Rattle.dom_callbacks.specs.declared.documents.Task.TheVariants as tasks

-- a listener of a node
abbrev pub listener_at : NodeName → ListenerWords → model.Listener NodeName
listener_at x w = record { node = x; words = listener_view w }

-- whether the words of a node's listener are these
abbrev pub is_of_words : Word → Word → Bool → words.ListenerWords → Bool
is_of_words event label capture w = text_eq w.event event && (text_eq w.label label && beq w.capture capture)

-- a visit
abbrev pub visit_view : Visit → model.Visit NodeName
visit_view v = record {
  current = v.current;
  phase = v.phase;
  capturing = v.capturing;
  target = v.target;
  related = v.related;
  path = v.path.value.items;
}

-- a visit that is made
abbrev pub visiting_view : VisitUnderWay → live.Visiting
visiting_view v = record {
  visit = visit_view v.visit;
  calls = map (λ w. listener_at v.visit.current w.value) v.calls.items;
  called = option_map (λ w. listener_view w.value) v.called;
  stopped_now = v.stopped_now;
}

-- an event under way; which nodes it visits, and who knows that it is cancelled, no step reads
abbrev pub under_way : EventUnderWay → live.UnderWay
under_way u = record {
  event = event_view u.event;
  by = u.by;
  nodes = [];
  visits = map visit_view u.visits.items;
  visiting = option_map visiting_view u.visiting;
  stopped = u.stopped;
  cancelled = u.cancelled;
  knowing = [];
}

-- a notification
abbrev pub notification_view : Notification → live.Notification
notification_view n = record { owner = n.owner; observers = n.observers.items; slots = n.slots.items; called = n.called }

-- whose a checkpoint is
abbrev pub checkpoint_view : Checkpoint → live.Checkpoint
checkpoint_view (AskedBy o) = live.asked_by o
checkpoint_view OfLoop = live.of_loop
checkpoint_view OfEnd = live.of_end

-- a frame
abbrev pub frame_view : Frame → live.Frame
frame_view (frames.Event u) = live.an_event (under_way u)
frame_view (frames.Notification n) = live.a_notification (notification_view n)
frame_view (frames.Microtask o) = live.a_microtask o
frame_view (frames.Checkpoint c) = live.a_checkpoint (checkpoint_view c)

-- a task
abbrev pub task_view : Task → world.Task
task_view (tasks.Micro o label) = world.micro_task o label.items
task_view (tasks.Notify o) = world.notify_task o
