use Rattle.dom_range_ops.proofs.Cited.{drop}
use Rattle.dom_range_ops.proofs.TakingLoops.{Progress}
use Rattle.dom_range_ops.proofs.taking.take_pieces.Given as goal

abbrev pub invariant-loop-piece : goal.invariant-loop-piece
invariant-loop-piece l = Progress l.fn.doc l.fn.into l.pieces (drop l.piece-index l.pieces) l.doc l.clones.items
