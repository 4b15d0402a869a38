use Rattle.dom_node_commands.proofs.Handlers.{◌∙◌, ◌∷◌, Any, Err, [], ap, faults, keys_three, made_three, may_act, namings, none_refused, plans, refl, refused}
use Rattle.dom_node_commands.proofs.Handlers.{refuses, replace_plan, replace_refusal, told_three}
use Rattle.dom_node_commands.proofs.moving.replace.Goals as goal

pub returns-in_err-parent-clause-handled : goal.returns-in_err-parent-clause-handled
returns-in_err-parent-clause-handled g c =
    refused g.A.Answers.adds _ _ _ (Any c.args.parent ∷ Any c.args.node ∷ Any c.args.child ∷ []) _ _ (search namings) c.in_err-parent.ensures.passed refl
    c.from_residual.ensures.1

pub returns-in_err-replace-clause-handled : goal.returns-in_err-replace-clause-handled
returns-in_err-replace-clause-handled g c =
    let same = told_three (λ p. replace_refusal p.trees)
    (keys_three _ c.state.inside.doc _ c.state.view_is _ _ _ _ _ c.in_ok-parent.ensures.first.name c.in_ok-parent.ensures.second.name
    _ _ c.in_ok-parent.ensures.third.name) in
    faults g.A.Answers.adds _ c.state.inside.doc _ c.state.view_is
    (may_act _ _ _ (Any c.args.parent ∷ Any c.args.node ∷ Any c.args.child ∷ []) (search namings) c.in_ok-parent.ensures.passed refl) _ _ _
    c.from_residual-in_err-replace.ensures.1 (refuses same (λ r. (c.in_err-replace.ensures.refused r).0))
    (λ r h. c.in_err-replace.ensures.unchanged r (ap Err h))

pub returns-clause-handled : goal.returns-clause-handled
returns-clause-handled g c =
    let at = keys_three _ c.state.inside.doc _ c.state.view_is _ _ _ _ _ c.in_ok-parent.ensures.first.name c.in_ok-parent.ensures.second.name
    _ _ c.in_ok-parent.ensures.third.name in
    plans g.A.Answers.adds _ c.state.inside.doc _ c.state.view_is
    (may_act _ _ _ (Any c.args.parent ∷ Any c.args.node ∷ Any c.args.child ∷ []) (search namings) c.in_ok-parent.ensures.passed refl) _ _ _ _
    (none_refused (told_three (λ p. replace_refusal p.trees) at) tt c.in_ok-replace.ensures.refused) refl refl
    (c.in_ok-replace.ensures.world ∙ made_three replace_plan at) c.accept.ensures.done
