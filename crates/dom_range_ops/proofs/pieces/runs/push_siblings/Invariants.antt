use Rattle.dom_range_ops.proofs.Cited.{length, option_map, from_sibling, name_at}
use Rattle.dom_range_ops.proofs.PieceRuns.{Passes}
use Rattle.dom_range_ops.proofs.pieces.runs.push_siblings.Given as goal

abbrev pub invariant-loop-at : goal.invariant-loop-at
invariant-loop-at l = Passes l.forest.trees l.forest.names l.fn.from l.until l.at l.fn.pieces.items l.pieces.items

abbrev pub decreases-loop-at : goal.decreases-loop-at
decreases-loop-at l = length (from_sibling l.forest.trees (option_map (name_at l.forest.names) l.at))
