-- The buffer has the steps so far.
use Rattle.dom_base.proofs.Std.{◌≡◌, ◌++◌, take}
use Rattle.dom_text.specs.Definitions.{steps_text}
use Rattle.dom_printer.specs.Steps.{steps_view}
use Rattle.dom_printer.proofs.trees.put_steps.Given as goal

abbrev pub invariant-loop-step : goal.invariant-loop-step
invariant-loop-step l = l.out.items ≡ l.fn.out.items ++ steps_text l.viewer (steps_view (take l.step-index l.steps))
