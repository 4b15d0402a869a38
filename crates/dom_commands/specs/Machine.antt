-- What a contract sees of a `Machine`.
use Rattle.std.specs.Prelude.{ℕ, ◌<◌, false, List, length, map, All, Result, Ok, Err}
use Rattle.std.specs.Option.{ForSome}
use Rattle.std.specs.List.{AllByRecursion}
use Rattle.dom_base.specs.declared.Fault.{Fault}
use Rattle.dom_base.specs.declared.Fault.TheVariants.{Refused, Memory}
use Rattle.dom_base.specs.declared.NodeName.{NodeName}
use Rattle.dom_model.specs.Dispatch.{event_output}
use Rattle.dom_model.specs.Listeners.{Listener}
use Rattle.dom_model.specs.Output.{Output, EventLine}
use Rattle.dom_model.specs.World.{World, Task}
use Rattle.dom_worlds.specs.Bounds.{IsBounded}
use Rattle.dom_worlds.specs.Reached.{IsReached}
use Rattle.dom_worlds.specs.Tables.{IsWhole}
use Rattle.dom_worlds.specs.Worlds.{IsThere, task_owner}
use Rattle.dom_tree.specs.Forest.{name_at}
use Rattle.dom_mutation.specs.Doc.{DocState}
use Rattle.dom_dispatch.specs.declared.event.LogLine.{LogLine}
use Rattle.dom_dispatch.specs.Dispatches.{line_in}
use Rattle.dom_dispatch.specs.ListenersByName.{IsListenerAt, line_named}
use Rattle.dom_commands.specs.WithListeners.{heard, own_listeners}

-- the names of the nodes by their keys, the listeners by keys, and the world
pub record MachineNow : Type 0 where
  pub names : List NodeName
  pub listeners : List (Listener ℕ)
  pub world : World

-- a state with listeners
abbrev pub machine_now : DocState → List (Listener ℕ) → MachineNow
machine_now s ls = record { names = s.names; listeners = ls; world = heard (own_listeners s.names ls) s.world }

-- the listeners are at nodes
abbrev pub AreAtNodes : MachineNow → Type 0
AreAtNodes m = AllByRecursion (IsListenerAt m.names) m.listeners

-- What holds of a machine between two lines: its listeners are at nodes, and its world is one that the definitions reach, whose
-- tables name what is there, and whose live ranges end within their nodes.
pub record IsAtRest (m : MachineNow) : Type 0 where
  pub listeners : AreAtNodes m
  pub reached : IsReached false m.world
  pub whole : IsWhole m.world
  pub bounds : IsBounded m.world

-- the owners of tasks are there
abbrev pub AreThere : World → List Task → Type 0
AreThere w ts = AllByRecursion (λ t. IsThere w (task_owner t)) ts

-- what was done has left the listeners at nodes; where memory was refused, nothing is said (own rule)
abbrev pub KeepsListeners : MachineNow → Result (Unit {0}) Fault → Type 0
KeepsListeners new (Ok x) = AreAtNodes new
KeepsListeners new (Err (Refused r)) = AreAtNodes new
KeepsListeners new (Err Memory) = Unit {0}

-- what the line of a call names are nodes
pub record NamesNodes (names : List NodeName) (l : EventLine ℕ) : Type 0 where
  pub target : l.target < length names
  pub current : l.current < length names
  pub related : ForSome l.related (λ k. k < length names)
  pub path : All (λ k. k < length names) l.path

-- a line of a dispatch, as it is printed
abbrev pub line_shown : List NodeName → LogLine → Output
line_shown names l = event_output (line_named names (line_in l))

-- the path of such a line
abbrev pub path_named : List NodeName → LogLine → List NodeName
path_named names l = map (name_at names) l.path.value.items
