-- The units so far are kept.
use Rattle.dom_printer.proofs.PutLaws.{failed_put}
use Rattle.dom_printer.proofs.strings.put_each.Goals as goal

pub returns-in_err-put_unit : goal.returns-in_err-put_unit
returns-in_err-put_unit c =
    let r = c.from_residual in
    failed_put _ _ c.loop-unit.invariant r.result _ _ r.ensures.0 c.in_err-put_unit.ensures.err
