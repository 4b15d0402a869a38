use Rattle.dom_path.proofs.Cited.{◌≡◌, ◌<◌, length, seen_from}
use Rattle.dom_path.proofs.trees.Trees.seen_from.Given as goal

abbrev pub invariant-loop-host : goal.invariant-loop-host
invariant-loop-host l = (l.place < length l.trees) × (seen_from l.self l.viewer l.seen l.place ≡ seen_from l.self l.viewer l.fn.node l.fn.place)

abbrev pub decreases-loop-host : goal.decreases-loop-host
decreases-loop-host l = l.place
