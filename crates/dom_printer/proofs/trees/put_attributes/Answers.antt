-- The attributes so far, and one more.
use Rattle.dom_printer.proofs.PutLaws.{failed_put}
use Rattle.dom_printer.proofs.trees.put_attributes.Goals as goal

pub returns-in_err-put_attribute : goal.returns-in_err-put_attribute
returns-in_err-put_attribute c =
    let r = c.from_residual in
    failed_put _ _ c.loop-attribute.invariant r.result _ _ r.ensures.0 c.in_err-put_attribute.ensures.err
