-- What a contract sees of a `Document`: a world in which no turn is open. Any owner's call is taken at any time, and tasks wait for a checkpoint.
use Rattle.std.specs.Prelude.{Bool, true, false, List, [], ◌∷◌, ◌++◌, fold, None}
use Rattle.dom_base.specs.declared.Owner.{Owner}
use Rattle.dom_model.specs.Command.{Command, command}
use Rattle.dom_model.specs.DocumentMachine.{step}
use Rattle.dom_model.specs.Runs.{Run}
use Rattle.dom_model.specs.Turns.{ending_turn}
use Rattle.dom_model.specs.World.{World, Task, micro_task, notify_task, queued_notify}
use Rattle.dom_commands.specs.Machine.{MachineNow, AreThere, IsAtRest}

-- the world as the calls so far have made it, and whether memory was refused to a call
pub record DocumentState : Type 0 where
  pub world : World
  pub has_failed : Bool

-- a world in which no turn is open
abbrev pub without_turn : World → World
without_turn w = record w { turn = None }

-- what a call of an owner does: the document machine's step on its command, after which no turn is open (own rule)
abbrev pub called : World → Owner → Command → Run World
called w o c = let r = step w (command o c) in (without_turn r.0, r.1)

-- what a checkpoint does: the tasks run, first in, first out, until none is left (HTML Standard, perform a microtask checkpoint)
abbrev pub checkpoint : World → Run World
checkpoint w = ending_turn w

-- whether a command ends a turn; as a call it is a checkpoint, and then a reply (own rule)
abbrev pub is_end_turn : Command → Bool
is_end_turn Command.end_turn = true
is_end_turn c = false

-- ---- the tasks: those of the turn that the document's machine has open, and before them those that wait

-- a queue with one more task; an owner's notification is queued once (DOM Standard, 4.3: queue a mutation observer microtask; HTML Standard, queue a
-- microtask)
abbrev pub with_task : List Task → Task → List Task
with_task tasks (micro_task o label) = tasks ++ micro_task o label ∷ []
with_task tasks (notify_task o) = queued_notify o tasks

-- a queue with further tasks, one after another
abbrev pub queued : List Task → List Task → List Task
queued tasks more = fold with_task tasks more

-- the world of a document, from that of its machine and the tasks that wait
abbrev pub turnless : World → List Task → World
turnless w waiting = record w { tasks = queued waiting w.tasks; turn = None }

-- The machine is at rest, and the owners of the tasks that wait are there.
pub record IsReady (m : MachineNow) (waiting : List Task) : Type 0 where
  pub machine : IsAtRest m
  pub there : AreThere m.world waiting
