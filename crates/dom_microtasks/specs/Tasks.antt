-- What a contract sees of a queue: the tasks of the meaning.
use Rattle.std.specs.Prelude.{◌≡◌, ◌≤◌, List, map, count_by}
use Rattle.dom_base.specs.declared.Owner.{Owner}
use Rattle.dom_model.specs.World.{Task as Meant, micro_task, notify_task, is_notify_of}
use Rattle.dom_microtasks.specs.OwnerNumbers.{number_at}
use Rattle.dom_microtasks.specs.declared.Task.{Task}
use Rattle.dom_microtasks.specs.declared.Task.TheVariants.{Micro, Notify}
use Rattle.dom_microtasks.specs.declared.Queue.TheInside.{Inside}

-- the task that the code holds (HTML Standard, concept: microtask)
abbrev pub task_of : Task → Meant
task_of (Micro o label) = micro_task o label.items
task_of (Notify o) = notify_task o

-- the tasks, the first first
abbrev pub tasks_of : Inside → List Meant
tasks_of q = map task_of q.tasks.items

-- each owner's notification is queued as often as is kept of it: once or not at all (own rule)
abbrev pub WaitsOnce : Inside → Type 0
WaitsOnce q = (o : Owner) → (count_by (is_notify_of o) (tasks_of q) ≡ number_at q.waiting o) × (number_at q.waiting o ≤ 1)
