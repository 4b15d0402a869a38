use Rattle.dom_traversal.specs.Definitions.{walker_left}
use Rattle.dom_callers.proofs.Outlines.{IsSearch}
use Rattle.dom_callers.proofs.outline.headings.Given as goal

abbrev pub invariant-loop-key : goal.invariant-loop-key
invariant-loop-key l = IsSearch l.forest l.fn.top l.walker l.found.items

abbrev pub decreases-loop-key : goal.decreases-loop-key
decreases-loop-key l = walker_left l.forest l.walker
