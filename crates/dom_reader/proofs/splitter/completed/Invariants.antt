-- A front of the piece was fed, and the rest is still to come.
use Rattle.dom_base.proofs.Std.{map, length}
use Rattle.dom_reader.proofs.FedPieces.{IsFedUpTo}
use Rattle.dom_reader.proofs.splitter.completed.Given as goal

abbrev pub invariant-loop-end : goal.invariant-loop-end
invariant-loop-end l = IsFedUpTo l.fn.kept.items l.piece l.rest (map (λ line. line.items) l.lines.items) l.kept.items

abbrev pub decreases-loop-end : goal.decreases-loop-end
decreases-loop-end l = length l.rest
