use Rattle.dom_node_commands.proofs.Handlers.{◌∷◌, Any, [], faults, held, key_of, lone_passes, lone_refuses, made_by_text, makes, may_act, namings, past_limit}
use Rattle.dom_node_commands.proofs.Handlers.{refl, refused, setting_text, told_one}
use Rattle.dom_node_commands.proofs.data.set_text.Goals as goal

pub returns-in_err-node-clause-handled : goal.returns-in_err-node-clause-handled
returns-in_err-node-clause-handled g c =
    refused g.A.Answers.adds _ _ _ (Any c.args.node ∷ []) _ _ (search namings) c.in_err-node.ensures.passed refl c.from_residual.ensures.1

pub returns-in_err-set_text-clause-handled : goal.returns-in_err-set_text-clause-handled
returns-in_err-set_text-clause-handled g c =
    let same = told_one (λ p x. past_limit p.node_count (made_by_text p x c.args.text.items))
    (key_of _ c.state.inside.doc _ c.state.view_is _ _ _ c.in_ok-node.ensures.key.name) in
    let e = c.in_err-set_text.ensures in
    faults g.A.Answers.adds _ c.state.inside.doc _ c.state.view_is
    (may_act _ _ _ (Any c.args.node ∷ []) (search namings) c.in_ok-node.ensures.passed refl) _ _ _
    c.from_residual-in_err-set_text.ensures.1
    (lone_refuses same e.refused e.other) (λ r h. e.unchanged (e.refused.1 (held e.refused e.other r h).0))

pub returns-clause-handled : goal.returns-clause-handled
returns-clause-handled g c =
    let same = told_one (λ p x. past_limit p.node_count (made_by_text p x c.args.text.items))
    (key_of _ c.state.inside.doc _ c.state.view_is _ _ _ c.in_ok-node.ensures.key.name) in
    makes g.A.Answers.adds (λ x. setting_text x c.args.text.items) _ c.state.inside.doc _ c.state.view_is
    (may_act _ _ _ (Any c.args.node ∷ []) (search namings) c.in_ok-node.ensures.passed refl) _ _ _ _ _ _ c.in_ok-node.ensures.key.name
    (lone_passes _ same c.in_ok-set_text.ensures.refused) refl refl c.in_ok-set_text.ensures.world c.accept.ensures.done
