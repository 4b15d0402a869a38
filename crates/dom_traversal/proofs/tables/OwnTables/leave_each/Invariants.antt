use Rattle.dom_traversal.proofs.Cited.{◌≡◌, ◌≤◌}
use Rattle.dom_traversal.proofs.Leaving.{HaveLeft}
use Rattle.dom_traversal.proofs.tables.OwnTables.leave_each.Given as goal

abbrev pub invariant-loop-number : goal.invariant-loop-number
invariant-loop-number l = record {
  left : HaveLeft l.forest l.node (λ _. Unit {0}) l.initial.self.iterators l.self.iterators l.number;
  same : l.self.walkers ≡ l.initial.self.walkers;
  end : l.number ≤ l.number-end;
}
