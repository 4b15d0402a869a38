use Rattle.dom_range_ops.proofs.Cited.{drop, observed, Empties}
use Rattle.dom_range_ops.proofs.deleting.remove_each.Given as goal

abbrev pub invariant-loop-key : goal.invariant-loop-key
invariant-loop-key l = Empties observed l.fn.first l.keys l.initial.doc (drop l.key-index l.keys) l.doc
