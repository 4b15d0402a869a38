use Rattle.dom_base.proofs.Std.{◌≡◌, List, fold, map, take}
use Rattle.dom_model.proofs.Model.{NodeName, name_eq, append_once, Task, queued_notify}
use Rattle.dom_tree.specs.Definitions.{name_at}
use Rattle.dom_mutation.proofs.node_trees.steps.signal_each.Given as goal

abbrev pub invariant-loop-slot : goal.invariant-loop-slot
invariant-loop-slot l =
    (l.signalled ≡ fold (append_once name_eq) l.fn.signalled (map (name_at l.fn.forest.names) (take l.slot-index l.slots)))
    × (l.queue ≡ fold (λ (ts : List Task) (s : NodeName). queued_notify s.owner ts) l.fn.queue
    (map (name_at l.fn.forest.names) (take l.slot-index l.slots)))
