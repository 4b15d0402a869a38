-- The steps so far, and one more.
use Rattle.dom_printer.proofs.PutLaws.{failed_put}
use Rattle.dom_printer.proofs.trees.put_steps.Goals as goal

pub returns-in_err-put_step : goal.returns-in_err-put_step
returns-in_err-put_step c =
    let r = c.from_residual in
    failed_put _ _ c.loop-step.invariant r.result _ _ r.ensures.0 c.in_err-put_step.ensures.err
