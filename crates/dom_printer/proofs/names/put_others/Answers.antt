-- The nodes so far, and one more.
use Rattle.dom_printer.proofs.PutLaws.{failed_put}
use Rattle.dom_printer.proofs.names.put_others.Goals as goal

pub returns-in_err-put_next : goal.returns-in_err-put_next
returns-in_err-put_next g c =
    let r = c.from_residual in
    failed_put _ _ c.loop-node.invariant r.result _ _ r.ensures.0 c.in_err-put_next.ensures.err
