use Rattle.dom_node_commands.proofs.Handlers.{◌∷◌, Child, [], makes, may_act, namings, observed, refl, refused, remove_plan}
use Rattle.dom_node_commands.proofs.moving.remove.Goals as goal

pub returns-in_err-node-clause-handled : goal.returns-in_err-node-clause-handled
returns-in_err-node-clause-handled g c =
    refused g.A.Answers.adds _ _ _ (Child c.args.node ∷ []) _ _ (search namings) c.in_err-node.ensures.passed refl c.from_residual.ensures.1

pub returns-clause-handled : goal.returns-clause-handled
returns-clause-handled g c =
    makes g.A.Answers.adds (remove_plan observed) _ c.state.inside.doc _ c.state.view_is
    (may_act _ _ _ (Child c.args.node ∷ []) (search namings) c.in_ok-node.ensures.passed refl) _ _ _ _ _ _ c.in_ok-node.ensures.key.name
    refl refl refl c.in_ok-remove.ensures.world c.accept.ensures.done
