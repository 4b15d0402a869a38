use Rattle.dom_base.proofs.Std.{◌≡◌, length}
use Rattle.dom_engine.specs.Documents.{queued}
use Rattle.dom_engine.proofs.document.queue_all.Given as goal

abbrev pub invariant-loop-task : goal.invariant-loop-task
invariant-loop-task l = queued l.waiting l.tasks ≡ queued l.initial.waiting l.initial.tasks

abbrev pub decreases-loop-task : goal.decreases-loop-task
decreases-loop-task l = length l.tasks
