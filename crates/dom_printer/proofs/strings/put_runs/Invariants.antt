-- The buffer has the units that were taken from the front.
use Rattle.dom_base.proofs.Std.{◌≡◌, ℕ, List, ◌++◌, length, flat_map}
use Rattle.dom_text.specs.Definitions.{unit_text}
use Rattle.dom_printer.proofs.strings.put_runs.Given as goal

abbrev pub invariant-loop-rest : goal.invariant-loop-rest
invariant-loop-rest l = (done : List ℕ) × (l.units ≡ done ++ l.rest) × (l.out.items ≡ l.fn.out.items ++ flat_map unit_text done)

abbrev pub decreases-loop-rest : goal.decreases-loop-rest
decreases-loop-rest l = length l.rest
