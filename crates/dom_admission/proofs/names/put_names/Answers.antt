-- Where memory is refused for a name, those before it are put.
use Rattle.dom_base.proofs.Std.{◌∙◌, arith}
use Rattle.dom_tree.proofs.OwnerLists.{on_err}
use Rattle.dom_admission.proofs.names.put_names.Goals as goal

pub returns-in_err-push-clause-err : goal.returns-in_err-push-clause-err
returns-in_err-push-clause-err c =
    on_err c.from_residual.result (c.loop-key.key-index, omega (arith, c.loop-key-test.true), c.in_err-push.ensures.items ∙ c.loop-key.invariant)
