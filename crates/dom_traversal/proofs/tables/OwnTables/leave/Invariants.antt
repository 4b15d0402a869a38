use Rattle.dom_traversal.proofs.Cited.{◌≡◌, ◌⊎◌, ℕ, Some, slice_get, ForSome, In, inclusive_descendants, name_at, StandsIn, IsLeftIf, KeyedIterator}
use Rattle.dom_traversal.proofs.Cited.{MayHaveLeft}
use Rattle.dom_tree.proofs.Inside.{from_key}
use Rattle.dom_traversal.proofs.tables.OwnTables.leave.Given as goal

abbrev pub invariant-loop-at : goal.invariant-loop-at
invariant-loop-at l = record {
  stands : ForSome l.at (StandsIn l.forest l.node);
  may : MayHaveLeft l.forest l.node l.initial.self.iterators l.self.iterators;
  ahead : (k : ℕ) (i : KeyedIterator) → slice_get l.initial.self.iterators k ≡ Some i →
      In (name_at l.forest.names i.reference) (inclusive_descendants l.forest.trees (name_at l.forest.names l.node))
      → from_key l.forest l.node l.at (name_at l.forest.names i.reference) ⊎
      IsLeftIf l.forest l.node (slice_get l.initial.self.iterators k) (slice_get l.self.iterators k);
  same : l.self.walkers ≡ l.initial.self.walkers;
}

abbrev pub decreases-loop-at : goal.decreases-loop-at
decreases-loop-at l = l.left
