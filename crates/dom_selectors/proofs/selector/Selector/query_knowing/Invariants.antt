-- Those found and those still to be found are all.
use Rattle.dom_selectors.proofs.Cited.{◌≡◌, ◌<◌, ◌++◌, length, filter, map, true, All, ForSome, selector_matches, query_all, name_at, StandsIn}
use Rattle.dom_selectors.proofs.Cited.{has_asked, IsKnownOfFirst, key_in, nodes_from, selector_view}
use Rattle.dom_selectors.proofs.selector.Selector.query_knowing.Given as goal

abbrev pub invariant-loop-at : goal.invariant-loop-at
invariant-loop-at g l = record {
  same : ForSome l.at (λ n. n.whole ≡ l.forest);
  stands : ForSome (key_in l.at) (StandsIn l.forest l.top);
  has : ForSome (key_in l.at) (λ k. has_asked l.forest.trees (name_at l.forest.names k) l.asks ≡ true);
  known : IsKnownOfFirst l.forest l.self.complexes.items l.known;
  nodes : All (λ k. k < length l.forest.names) l.found.items;
  all : map (name_at l.forest.names) l.found.items ++ filter (selector_matches l.forest.trees (selector_view l.self)) (nodes_from l.forest l.top l.at) ≡
      query_all l.forest.trees (selector_view l.self) (name_at l.forest.names l.top);
}

abbrev pub decreases-loop-at : goal.decreases-loop-at
decreases-loop-at g l = length (nodes_from l.forest l.top l.at)
