use Rattle.dom_node_commands.proofs.Handlers.{◌∷◌, Data, [], kind_in, makes, may_act, namings, refl, refused, replacing_all_data}
use Rattle.dom_node_commands.proofs.data.set_data.Goals as goal

pub returns-in_err-node-clause-handled : goal.returns-in_err-node-clause-handled
returns-in_err-node-clause-handled g c =
    refused g.A.Answers.adds _ _ _ (Data c.args.node ∷ []) _ _ (search namings) c.in_err-node.ensures.passed refl c.from_residual.ensures.1

pub returns-clause-handled : goal.returns-clause-handled
returns-clause-handled g c =
    makes g.A.Answers.adds (λ x. replacing_all_data x c.args.text.items) _ c.state.inside.doc _ c.state.view_is
    (may_act _ _ _ (Data c.args.node ∷ []) (search namings) c.in_ok-node.ensures.passed refl) _ _ _ _ _ _ c.in_ok-node.ensures.key.name
    refl refl refl c.in_ok-set_data.ensures.world c.accept.ensures.done

pub set_data-requires-clause-has_data : goal.set_data-requires-clause-has_data
set_data-requires-clause-has_data g c = kind_in _ c.state.inside.doc _ (Data c.args.node) _ c.state.view_is c.in_ok-node.ensures.key.kind
