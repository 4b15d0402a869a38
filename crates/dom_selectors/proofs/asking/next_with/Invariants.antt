-- The nodes that are left have all that pass.
use Rattle.dom_selectors.proofs.Cited.{◌≡◌, ◌≤◌, Bool, true, filter, length, ForSome, NodeName, StandsIn, has_asked, key_in, nodes_behind, nodes_from}
use Rattle.dom_selectors.specs.Known.{IsNoChild}
use Rattle.dom_selectors.specs.Signs.{Shows}
use Rattle.dom_selectors.proofs.asking.next_with.Given as goal

abbrev pub invariant-loop-at : goal.invariant-loop-at
invariant-loop-at l = record {
  same : ForSome l.at (λ n. n.whole ≡ l.forest);
  stands : ForSome (key_in l.at) (StandsIn l.forest l.top);
  passed : (test : NodeName → Bool) → ((x : NodeName) → test x ≡ true → Shows l.forest.trees x l.signs.bits) →
      ((x : NodeName) → test x ≡ true → has_asked l.forest.trees x l.asked ≡ true) → ((x : NodeName) → test x ≡ true → IsNoChild l.forest l.failing x) →
      filter test (nodes_from l.forest l.top l.at) ≡ filter test (nodes_behind l.forest l.top l.fn.from.key);
  shorter : length (nodes_from l.forest l.top l.at) ≤ length (nodes_behind l.forest l.top l.fn.from.key);
}

abbrev pub decreases-loop-at : goal.decreases-loop-at
decreases-loop-at l = length (nodes_from l.forest l.top l.at)
