use Rattle.dom_admission.proofs.Cited.{◌∙◌, [], ap, sym, or-false, let_pass}
use Rattle.dom_admission.proofs.Admitting.{admitted, passing_err}
use Rattle.dom_admission.proofs.state.State.admit_one.Goals as goal
use Rattle.dom_base.proofs.Std.{and-true}

pub returns-in_err-pass-clause-passed : goal.returns-in_err-pass-clause-passed
returns-in_err-pass-clause-passed c =
    passing_err _ c.from_residual.ensures.1 ∙ c.in_err-pass.ensures.passed ∙ ap let_pass (admitted c.args.self.now c.args.owner
    c.args.named _ ([]) (c.requires, c.key_named-key.ensures.looked, tt)
    (c.is_others.ensures ∙ sym (or-false _)) (c.is_some.ensures ∙ sym (and-true _)) (c.fits-fits.ensures ∙ sym (and-true _)))

pub returns-clause-passed : goal.returns-clause-passed
returns-clause-passed c =
    c.in_ok-pass.ensures.passed ∙ ap let_pass (admitted c.args.self.now c.args.owner
    c.args.named _ ([]) (c.requires, c.key_named-key.ensures.looked, tt)
    (c.is_others.ensures ∙ sym (or-false _)) (c.is_some.ensures ∙ sym (and-true _)) (c.fits-fits.ensures ∙ sym (and-true _)))
