use Rattle.dom_traversal.proofs.Cited.{◌≡◌, ◌-◌, length}
use Rattle.dom_traversal.proofs.Leaving.{HaveLeft}
use Rattle.dom_traversal.proofs.tables.OwnTables.leave_from.Given as goal

abbrev pub invariant-loop-number : goal.invariant-loop-number
invariant-loop-number l = record {
  left : HaveLeft l.forest l.node (λ i. i.reference ≡ l.key) l.initial.self.iterators l.self.iterators l.least;
  same : l.self.walkers ≡ l.initial.self.walkers;
}

abbrev pub decreases-loop-number : goal.decreases-loop-number
decreases-loop-number l = length l.self.iterators - l.least
