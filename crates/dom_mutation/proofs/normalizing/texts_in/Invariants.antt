use Rattle.dom_mutation.proofs.Cited.{◌≡◌, true, ForSome, option_map, is_inclusive_ancestor, name_at, name_in, left}
use Rattle.node_arena.specs.Spots.{key_in}
use Rattle.dom_mutation.proofs.Joined.{Gathers, below_of}
use Rattle.dom_mutation.proofs.normalizing.texts_in.Given as goal

abbrev pub invariant-loop-at : goal.invariant-loop-at
invariant-loop-at l = record {
  same : ForSome l.at (λ n. n.whole ≡ l.forest);
  within : ForSome (key_in l.at) (λ k. is_inclusive_ancestor l.forest.trees (name_at l.forest.names l.top) (name_at l.forest.names k) ≡ true);
  gathers : Gathers l.parts l.top l.keys.items (key_in l.at);
}

abbrev pub decreases-loop-at : goal.decreases-loop-at
decreases-loop-at l = left (below_of l.parts l.top) (option_map (name_in l.parts) (key_in l.at))
