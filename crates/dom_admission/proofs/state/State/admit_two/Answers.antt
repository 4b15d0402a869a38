use Rattle.dom_admission.proofs.Cited.{◌∷◌, ◌∙◌, ◌&&◌, ◌||◌, [], true, false, ap, let_pass}
use Rattle.dom_admission.proofs.Admitting.{admitted, passing_err}
use Rattle.dom_admission.proofs.state.State.admit_two.Goals as goal

pub returns-in_err-pass-clause-passed : goal.returns-in_err-pass-clause-passed
returns-in_err-pass-clause-passed c =
    passing_err _ c.from_residual.ensures.1 ∙ c.in_err-pass.ensures.passed ∙ ap let_pass (admitted c.args.self.now c.args.owner
    c.args.first _ ((c.args.second, _) ∷ [])
    (c.requires.first_node, c.key_named-one.ensures.looked, (c.requires.second_node, c.key_named-other.ensures.looked, tt))
    (c.either-foreign.ensures ∙ (λ j. c.is_others.ensures j || (c.is_others-2.ensures j || false)))
    (c.both-present.ensures ∙ (λ j. c.is_some.ensures j && (c.is_some-2.ensures j && true)))
    (c.both-fits.ensures ∙ (λ j. c.fits.ensures j && (c.fits-2.ensures j && true))))

pub returns-clause-passed : goal.returns-clause-passed
returns-clause-passed c =
    c.in_ok-pass.ensures.passed ∙ ap let_pass (admitted c.args.self.now c.args.owner
    c.args.first _ ((c.args.second, _) ∷ [])
    (c.requires.first_node, c.key_named-one.ensures.looked, (c.requires.second_node, c.key_named-other.ensures.looked, tt))
    (c.either-foreign.ensures ∙ (λ j. c.is_others.ensures j || (c.is_others-2.ensures j || false)))
    (c.both-present.ensures ∙ (λ j. c.is_some.ensures j && (c.is_some-2.ensures j && true)))
    (c.both-fits.ensures ∙ (λ j. c.fits.ensures j && (c.fits-2.ensures j && true))))
