use Rattle.dom_range_ops.proofs.Cited.{◌-◌, map, drop, name_at, tails}
use Rattle.dom_range_ops.proofs.PieceRuns.{Partway}
use Rattle.dom_range_ops.proofs.pieces.sides.push_tails.Given as goal

abbrev pub invariant-loop-at : goal.invariant-loop-at
invariant-loop-at l = Partway l.forest.names l.fn.pieces.items l.pieces.items
    (tails l.forest.trees l.behind (map (name_at l.forest.names) l.path))
    (tails l.forest.trees l.behind (map (name_at l.forest.names) (drop (l.at - 1) l.path)))
