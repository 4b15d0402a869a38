use Rattle.dom_range_ops.proofs.Cited.{◌≡◌, take, whole_keys}
use Rattle.dom_range_ops.proofs.contained.whole_nodes.Given as goal

abbrev pub invariant-loop-piece : goal.invariant-loop-piece
invariant-loop-piece l = l.keys.items ≡ whole_keys (take l.piece-index l.pieces)
