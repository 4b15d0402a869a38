use Rattle.dom_base.proofs.Std.{◌≡◌, length, filter, ForSome}
use Rattle.dom_tree.specs.Definitions.{IsNode}
use Rattle.dom_observers.specs.Definitions.{keys_from, is_marked}
use Rattle.dom_observers.proofs.marks.Marks.nearest_by_walk.Given as goal

abbrev pub invariant-loop-at : goal.invariant-loop-at
invariant-loop-at l = record {
  node : ForSome l.at (IsNode l.forest);
  others : filter (is_marked l.self) (keys_from l.forest l.fn.from) ≡ filter (is_marked l.self) (keys_from l.forest l.at);
}

abbrev pub decreases-loop-at : goal.decreases-loop-at
decreases-loop-at l = length (keys_from l.forest l.at)
