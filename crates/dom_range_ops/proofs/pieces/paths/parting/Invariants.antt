use Rattle.dom_range_ops.proofs.Cited.{◌≡◌, ◌≤◌, length, drop}
use Rattle.dom_range_ops.proofs.pieces.paths.parting.Given as goal

abbrev pub invariant-loop-left : goal.invariant-loop-left
invariant-loop-left l = record { first : l.left ≤ length l.first; second : l.other ≤ length l.second; same : drop l.left l.first ≡ drop l.other l.second }

abbrev pub decreases-loop-left : goal.decreases-loop-left
decreases-loop-left l = l.left
