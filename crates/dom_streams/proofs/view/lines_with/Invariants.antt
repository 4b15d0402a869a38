-- The lines kept so far, and what the prefix keeps of the rest.
use Rattle.dom_base.proofs.Std.{◌≡◌, ◌++◌, length}
use Rattle.dom_streams.proofs.ViewLaws.{kept_by}
use Rattle.dom_streams.proofs.view.lines_with.Given as goal

abbrev pub invariant-loop-at : goal.invariant-loop-at
invariant-loop-at l = kept_by l.prefix l.fn.text ≡ l.lines.items ++ kept_by l.prefix l.rest

abbrev pub decreases-loop-at : goal.decreases-loop-at
decreases-loop-at l = length l.rest
