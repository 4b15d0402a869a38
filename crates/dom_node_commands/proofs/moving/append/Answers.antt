use Rattle.dom_node_commands.proofs.Handlers.{◌∙◌, ◌∷◌, Any, Err, None, [], ap, faults, keys_two, made_two, may_act, namings, none_refused, plans}
use Rattle.dom_node_commands.proofs.Handlers.{pre_insert_plan, pre_insert_refusal, refl, refused, refuses, told_two}
use Rattle.dom_node_commands.proofs.moving.append.Goals as goal

pub returns-in_err-parent-clause-handled : goal.returns-in_err-parent-clause-handled
returns-in_err-parent-clause-handled g c =
    refused g.A.Answers.adds _ _ _ (Any c.args.parent ∷ Any c.args.node ∷ []) _ _ (search namings) c.in_err-parent.ensures.passed refl c.from_residual.ensures.1

pub returns-in_err-insert-clause-handled : goal.returns-in_err-insert-clause-handled
returns-in_err-insert-clause-handled g c =
    let same = told_two (λ p x y. pre_insert_refusal p.trees x y None)
    (keys_two _ c.state.inside.doc _ c.state.view_is _ _ _ _ _ c.in_ok-parent.ensures.first.name c.in_ok-parent.ensures.second.name) in
    faults g.A.Answers.adds _ c.state.inside.doc _ c.state.view_is
    (may_act _ _ _ (Any c.args.parent ∷ Any c.args.node ∷ []) (search namings) c.in_ok-parent.ensures.passed refl) _ _ _
    c.from_residual-in_err-insert.ensures.1 (refuses same (λ r. (c.in_err-insert.ensures.refused r).0))
    (λ r h. c.in_err-insert.ensures.unchanged r (ap Err h))

pub returns-clause-handled : goal.returns-clause-handled
returns-clause-handled g c =
    let at = keys_two _ c.state.inside.doc _ c.state.view_is _ _ _ _ _ c.in_ok-parent.ensures.first.name c.in_ok-parent.ensures.second.name in
    plans g.A.Answers.adds _ c.state.inside.doc _ c.state.view_is
    (may_act _ _ _ (Any c.args.parent ∷ Any c.args.node ∷ []) (search namings) c.in_ok-parent.ensures.passed refl) _ _ _ _
    (none_refused (told_two (λ p x y. pre_insert_refusal p.trees x y None) at) tt c.in_ok-insert.ensures.refused) refl refl
    (c.in_ok-insert.ensures.world ∙ made_two (λ x y. pre_insert_plan y x None) at) c.accept.ensures.done
