use Rattle.dom_base.proofs.Std.{length}
use Rattle.dom_observers.specs.Definitions.{keys_from}
use Rattle.dom_observers.proofs.Ascending.{HasClimbed}
use Rattle.dom_observers.proofs.path.inclusive_ancestors.Given as goal

abbrev pub invariant-loop-at : goal.invariant-loop-at
invariant-loop-at l = HasClimbed l.forest l.fn.key l.path.items l.at

abbrev pub decreases-loop-at : goal.decreases-loop-at
decreases-loop-at l = length (keys_from l.forest l.at)
