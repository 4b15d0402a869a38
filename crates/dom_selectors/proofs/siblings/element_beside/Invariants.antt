-- The nearest element from where the walk is on is the one that is sought.
use Rattle.dom_selectors.proofs.Cited.{◌≡◌, ◌<◌, length, ForSome, name_at, element_on}
use Rattle.dom_selectors.proofs.Passing.{left_on, nearest_from}
use Rattle.dom_selectors.proofs.siblings.element_beside.Given as goal

abbrev pub invariant-loop-at : goal.invariant-loop-at
invariant-loop-at l = record {
  node : ForSome l.at (λ k. k < length l.forest.names);
  nearest : nearest_from l.forest l.side l.at ≡ element_on l.side l.forest.trees (name_at l.forest.names l.fn.key);
}

abbrev pub decreases-loop-at : goal.decreases-loop-at
decreases-loop-at l = length (left_on l.forest l.side l.at)
