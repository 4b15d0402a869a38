-- What the frames stand on: documents, as far as frames ask of them. The world with all owners' parts is such documents, and so is the page machine's
-- state, in which there is one part and no shadow tree. Live documents are documents with what is live in them and what is under way.
use Rattle.std.specs.Prelude.{ℕ, Bool, false, ◌||◌, List, [], ◌∷◌, find, filter, Option, if◌then◌else◌}
use Rattle.std.specs.List.{list_any}
use Rattle.std.specs.Option.{option_map_or}
use Rattle.dom_base.specs.declared.Owner.{Owner}
use Rattle.dom_base.specs.declared.NodeName.{NodeName}
use Rattle.dom_base.specs.declared.Refusal.{Refusal}
use Rattle.dom_model.specs.Names.{owner_eq, name_eq}
use Rattle.dom_model.specs.Command.{Command, EventWords, ListenerWords}
use Rattle.dom_model.specs.Listeners.{Listener, Visit, is_listener}
use Rattle.dom_model.specs.Part.{Part}
use Rattle.dom_model.specs.Paths.{views, plain_views}
use Rattle.dom_model.specs.Runs.{Run}
use Rattle.dom_model.specs.World.{World, Task, part_of, put_part, is_there}
use Rattle.dom_model.specs.Dispatch.{visits_of}
use Rattle.dom_model.specs.Turns.{is_owned_by, without_signals}
use Rattle.dom_model.specs.DocumentMachine.{refusal, perform}
use Rattle.dom_model.specs.Groups.{is_task_of, group_run}
use Rattle.dom_model.specs.Trace.{is_page}
use Rattle.dom_model.specs.PageMachine.{PageState, page_refusal, page_perform}
use Rattle.dom_live.specs.Frames.{Frame}

-- Documents of a state S: an owner's part, and the state with a part written; the visits of an event at a target, as the trees are; the tasks that
-- wait; the signalled slots of an owner, and the state without them; why a command is refused; and what an accepted command without an event does.
pub record Documents (S : Type 0) : Type 0 where
  pub part : S → Owner → Part
  pub with_part : S → Part → S
  pub visits : S → NodeName → Option NodeName → EventWords → List (Visit NodeName)
  pub tasks : S → List Task
  pub with_tasks : S → List Task → S
  pub slots : S → Owner → List NodeName
  pub without_slots : S → Owner → S
  pub refusal : S → Owner → Command → Option Refusal
  pub perform : S → Owner → Command → Run S

-- the visits of an event in the world (DOM Standard, concept: dispatch)
abbrev pub world_visits : World → NodeName → Option NodeName → EventWords → List (Visit NodeName)
world_visits w target related e = visits_of name_eq e.bubbles (views w target related e.composed)

-- an owner's signalled slots
abbrev pub world_slots : World → Owner → List NodeName
world_slots w o = filter (is_owned_by o) w.signalled

-- the world with a part written, if its owner is there
abbrev pub written : World → Part → World
written w p = record w { parts = if is_page p.owner || is_there w p.owner then put_part w.parts p else w.parts }

-- the world, in which no turn is ever open
abbrev pub world_documents : Documents World
world_documents = record {
  part = part_of;
  with_part = written;
  visits = world_visits;
  tasks = λ w. w.tasks;
  with_tasks = λ w ts. record w { tasks = ts };
  slots = world_slots;
  without_slots = without_signals;
  refusal = refusal;
  perform = perform;
}

-- the world of a group, in which all others are silent: an event visits the group's nodes alone, the group's tasks alone run, and a component that a
-- member attaches has a part only if it is of the group
abbrev pub silent_documents : (Owner → Bool) → Documents World
silent_documents group = record {
  part = part_of;
  with_part = written;
  visits = λ w target related e. filter (λ v. group v.current.owner) (world_visits w target related e);
  tasks = λ w. filter (is_task_of group) w.tasks;
  with_tasks = λ w ts. record w { tasks = ts };
  slots = world_slots;
  without_slots = without_signals;
  refusal = refusal;
  perform = λ w o c. group_run group (perform w o c);
}

-- the page alone: its events go along inclusive ancestors, and it has no slots
abbrev pub page_documents : Documents PageState
page_documents = record {
  part = λ s o. s.part;
  with_part = λ s p. record s { part = p };
  visits = λ s target related e. visits_of name_eq e.bubbles (plain_views s.part.trees target related);
  tasks = λ s. s.tasks;
  with_tasks = λ s ts. record s { tasks = ts };
  slots = λ s o. [];
  without_slots = λ s o. s;
  refusal = λ s o c. page_refusal s c;
  perform = λ s o c. page_perform s c;
}

-- Live documents: which listeners and observers are live; whether the waiting microtasks are, each owner's in their order; what is under way, the
-- innermost first; and whether the input is at its end, where no call waits.
pub record Live (S : Type 0) : Type 0 where
  pub documents : S
  pub live_listeners : List (Listener NodeName)
  pub live_observers : List (Owner × ℕ)
  pub live_tasks : List (Owner × Bool)
  pub frames : List Frame
  pub is_over : Bool

-- live documents in which nothing is live
abbrev pub at_rest : {S : Type 0} → S → Live S
at_rest s = record { documents = s; live_listeners = []; live_observers = []; live_tasks = []; frames = []; is_over = false }

-- whether the listener of a node with these words is live
abbrev pub is_live : List (Listener NodeName) → NodeName → ListenerWords → Bool
is_live listeners x w = list_any (is_listener name_eq x w.event w.label w.capture) listeners

-- whether an entry is an owner's
abbrev pub is_entry_of : {A : Type 0} → Owner → Owner × A → Bool
is_entry_of o e = owner_eq e.0 o

-- whether the first waiting microtask of an owner is live
abbrev pub first_is_live : Owner → List (Owner × Bool) → Bool
first_is_live o tasks = option_map_or (λ e. e.1) (find (is_entry_of o) tasks) false

-- the entries without the first of an owner
abbrev pub without_first : Owner → List (Owner × Bool) → List (Owner × Bool)
without_first o [] = []
without_first o (e ∷ es) = if is_entry_of o e then es else e ∷ without_first o es
