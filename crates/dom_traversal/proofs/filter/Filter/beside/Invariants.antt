use Rattle.dom_traversal.proofs.Cited.{length, ancestors, name_at, filter_of}
use Rattle.dom_traversal.proofs.Beside.{HasRisen}
use Rattle.dom_traversal.proofs.filter.Filter.beside.Given as goal

abbrev pub invariant-up : goal.invariant-up
invariant-up l = HasRisen l.direction l.forest (filter_of l.self) l.top l.fn.key l.at

abbrev pub decreases-up : goal.decreases-up
decreases-up l = length (ancestors l.forest.trees (name_at l.forest.names l.at))
