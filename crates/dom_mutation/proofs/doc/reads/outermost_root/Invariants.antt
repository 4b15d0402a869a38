use Rattle.dom_mutation.proofs.Cited.{◌≡◌, ◌<◌, length, root_of, shadows, name_at, outermost_root}
use Rattle.dom_mutation.proofs.doc.reads.outermost_root.Given as goal

abbrev pub invariant-loop-left : goal.invariant-loop-left
invariant-loop-left l =
    (l.root < length l.forest.names)
    × (outermost_root (shadows l.forest l.slots.hosts) l.left (name_at l.forest.names l.root) ≡
    outermost_root (shadows l.forest l.slots.hosts) l.depth (root_of l.forest.trees (name_at l.forest.names l.fn.node)))

abbrev pub decreases-loop-left : goal.decreases-loop-left
decreases-loop-left l = l.left
