use Rattle.dom_range_ops.proofs.Cited.{◌≡◌, ◌≤◌, List, map, take, NodeName, item_in, made_by}
use Rattle.dom_range_ops.proofs.pieces.count_made.Given as goal

abbrev pub invariant-loop-piece : goal.invariant-loop-piece
invariant-loop-piece l = record {
  few : l.count ≤ l.piece-index;
  value : (names : List NodeName) → l.count ≡ made_by (map (item_in names) (take l.piece-index l.pieces));
}
