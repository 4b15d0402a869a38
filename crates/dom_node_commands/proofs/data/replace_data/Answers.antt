use Rattle.dom_node_commands.proofs.Handlers.{◌∷◌, Data, [], faults, held, key_of, kind_in, lone_passes, lone_refuses, makes, may_act, namings, past_end}
use Rattle.dom_node_commands.proofs.Handlers.{refl, refused, replacing_data, told_one}
use Rattle.dom_node_commands.proofs.data.replace_data.Goals as goal

pub returns-in_err-node-clause-handled : goal.returns-in_err-node-clause-handled
returns-in_err-node-clause-handled g c =
    refused g.A.Answers.adds _ _ _ (Data c.args.node ∷ []) _ _ (search namings) c.in_err-node.ensures.passed refl c.from_residual.ensures.1

pub returns-in_err-replace_data-clause-handled : goal.returns-in_err-replace_data-clause-handled
returns-in_err-replace_data-clause-handled g c =
    let same = told_one (λ p x. past_end p x c.args.offset)
    (key_of _ c.state.inside.doc _ c.state.view_is _ _ _ c.in_ok-node.ensures.key.name) in
    let e = c.in_err-replace_data.ensures in
    faults g.A.Answers.adds _ c.state.inside.doc _ c.state.view_is
    (may_act _ _ _ (Data c.args.node ∷ []) (search namings) c.in_ok-node.ensures.passed refl) _ _ _
    c.from_residual-in_err-replace_data.ensures.1
    (lone_refuses same e.refused e.other) (λ r h. e.unchanged (held e.refused e.other r h).0)

pub returns-clause-handled : goal.returns-clause-handled
returns-clause-handled g c =
    let same = told_one (λ p x. past_end p x c.args.offset)
    (key_of _ c.state.inside.doc _ c.state.view_is _ _ _ c.in_ok-node.ensures.key.name) in
    makes g.A.Answers.adds (λ x. replacing_data x c.args.offset c.args.count c.args.text.items) _ c.state.inside.doc _ c.state.view_is
    (may_act _ _ _ (Data c.args.node ∷ []) (search namings) c.in_ok-node.ensures.passed refl) _ _ _ _ _ _ c.in_ok-node.ensures.key.name
    (lone_passes _ same c.in_ok-replace_data.ensures.refused) refl refl c.in_ok-replace_data.ensures.world c.accept.ensures.done

pub replace_data-requires-clause-has_data : goal.replace_data-requires-clause-has_data
replace_data-requires-clause-has_data g c = kind_in _ c.state.inside.doc _ (Data c.args.node) _ c.state.view_is c.in_ok-node.ensures.key.kind
