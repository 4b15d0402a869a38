-- The state of live documents in code, and what a step of it does.
use Rattle.std.specs.Prelude.{◌≡◌, Bool, true, List, map, Option, option_to_list}
use Rattle.std.specs.List.{AllByRecursion}
use Rattle.dom_base.specs.declared.NodeName.{NodeName}
use Rattle.dom_model.specs.Listeners.{Listener}
use Rattle.dom_model.specs.Output.{Output}
use Rattle.dom_model.specs.Tree.{has_node}
use Rattle.dom_model.specs.World.{World, part_of}
use Rattle.dom_live.specs.Documents.{Live}
use Rattle.dom_live.specs.Lines.{LiveRun}
use Rattle.dom_callbacks.specs.declared.calling.Calling.{Calling}
use Rattle.dom_callbacks.specs.declared.frames.Frame.{Frame}
use Rattle.dom_callbacks.specs.declared.frames.Frame.TheVariants as frames
use Rattle.dom_callbacks.specs.declared.state.LiveState.{LiveState}
use Rattle.dom_callbacks.specs.declared.state.LiveListener.{LiveListener}
use Rattle.dom_callbacks.specs.Views.{listener_at, frame_view}
use Rattle.dom_callbacks.specs.Outputs.{lines_in, calls_in}
use Rattle.dom_callbacks.specs.Bare.{bare}

-- whether a node is there
abbrev pub is_node : World → NodeName → Bool
is_node w x = has_node (part_of w x.owner).trees x

-- a node is there
abbrev pub IsNode : World → NodeName → Type 0
IsNode w x = is_node w x ≡ true

-- the nodes that are there stay
abbrev pub KeepsNodes : World → World → Type 0
KeepsNodes before after = (x : NodeName) → IsNode before x → IsNode after x

-- the slots at which `slotchange` is still to be fired are there
abbrev pub HasSlots : World → Frame → Type 0
HasSlots w (frames.Notification n) = AllByRecursion (IsNode w) n.slots.items
HasSlots w f = Unit {0}

-- all of them are
abbrev pub IsReady : {S : Type 0} → (S → World) → LiveState S → Type 0
IsReady world s = AllByRecursion (HasSlots (world s.documents)) s.frames.items

-- two frames have these slots alike
abbrev pub SameSlots : Frame → Frame → Type 0
SameSlots f g = (w : World) → HasSlots w f → HasSlots w g

-- and so have two lists of frames
abbrev pub HaveSameSlots : List Frame → List Frame → Type 0
HaveSameSlots fs gs = (w : World) → AllByRecursion (HasSlots w) fs → AllByRecursion (HasSlots w) gs

-- a live listener
abbrev pub live_listener : LiveListener → Listener NodeName
live_listener l = listener_at l.node l.words

-- the state, whose documents have a world
abbrev pub live_of : {S : Type 0} → (S → World) → LiveState S → Live World
live_of world s = record {
  documents = world s.documents;
  live_listeners = map live_listener s.live_listeners.items;
  live_observers = s.live_observers.items;
  live_tasks = s.live_tasks.items;
  frames = map frame_view s.frames.items;
  is_over = s.is_over;
}

-- A run of live documents was made: the state is that which the run leaves, but for what no step reads; the lines that it writes were added to the
-- answer; and the calls are told.
pub record Ran {A : Type 0} (adds : A → List Output → A → Type 0) (run : LiveRun (Live World)) (now : Live World) (before after : A)
    (called : Option Calling) : Type 0 where
  pub state : now ≡ bare run.0
  pub told : adds before (lines_in run.1) after
  pub call : option_to_list called ≡ calls_in run.1
