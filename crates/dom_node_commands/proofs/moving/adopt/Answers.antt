use Rattle.dom_node_commands.proofs.Handlers.{◌∙◌, ◌∷◌, Any, Document, Err, [], adopt_plan, adoption-is, adoption_refusal, ap, faults, key_of, keys_two}
use Rattle.dom_node_commands.proofs.Handlers.{kind_in, kind_of, made_two, may_act, namings, none_refused, plans, refl, refused, refuses, told_one}
use Rattle.dom_node_commands.proofs.moving.adopt.Goals as goal

pub returns-in_err-document-clause-handled : goal.returns-in_err-document-clause-handled
returns-in_err-document-clause-handled g c =
    refused g.A.Answers.adds _ _ _ (Document c.args.document ∷ Any c.args.node ∷ []) _ _ (search namings) c.in_err-document.ensures.passed refl
    c.from_residual.ensures.1

pub returns-in_err-adopt-clause-handled : goal.returns-in_err-adopt-clause-handled
returns-in_err-adopt-clause-handled g c =
    let same = told_one (λ p x. adoption_refusal (kind_of p.trees x))
    (key_of _ c.state.inside.doc _ c.state.view_is _ _ _ c.in_ok-document.ensures.second.name) in
    faults g.A.Answers.adds _ c.state.inside.doc _ c.state.view_is
    (may_act _ _ _ (Document c.args.document ∷ Any c.args.node ∷ []) (search namings) c.in_ok-document.ensures.passed refl) _ _ _
    c.from_residual-in_err-adopt.ensures.1 (refuses (same ∙ adoption-is _) (λ r. (c.in_err-adopt.ensures.refused r).0))
    (λ r h. c.in_err-adopt.ensures.unchanged r (ap Err h))

pub returns-clause-handled : goal.returns-clause-handled
returns-clause-handled g c =
    let at = keys_two _ c.state.inside.doc _ c.state.view_is _ _ _ _ _ c.in_ok-document.ensures.second.name c.in_ok-document.ensures.first.name in
    plans g.A.Answers.adds _ c.state.inside.doc _ c.state.view_is
    (may_act _ _ _ (Document c.args.document ∷ Any c.args.node ∷ []) (search namings) c.in_ok-document.ensures.passed refl) _ _ _ _
    (none_refused (told_one (λ p x. adoption_refusal (kind_of p.trees x)) at.0 ∙ adoption-is _) tt c.in_ok-adopt.ensures.refused) refl refl
    (c.in_ok-adopt.ensures.world ∙ made_two (λ x y. adopt_plan y x) at) c.accept.ensures.done

pub adopt-requires-clause-document : goal.adopt-requires-clause-document
adopt-requires-clause-document g c = kind_in _ c.state.inside.doc _ (Document c.args.document) _ c.state.view_is c.in_ok-document.ensures.first.kind
