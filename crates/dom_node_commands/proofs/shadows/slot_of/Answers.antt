use Rattle.dom_node_commands.proofs.Handlers.{◌∷◌, Slottable, [], may_act, namings, reads, refl, refused}
use Rattle.dom_node_commands.proofs.shadows.slot_of.Goals as goal

pub returns-in_err-admit-clause-handled : goal.returns-in_err-admit-clause-handled
returns-in_err-admit-clause-handled g c =
    refused g.A.Answers.adds _ _ _ (Slottable c.args.node ∷ []) _ _ (search namings) c.admit.ensures c.in_err-admit.was c.from_residual.ensures.1

pub returns-clause-handled : goal.returns-clause-handled
returns-clause-handled g c =
    reads g.A.Answers.adds (may_act _ _ _ (Slottable c.args.node ∷ []) (search namings) c.admit.ensures c.in_ok-admit.was) _ _ _ _ refl refl refl
    c.accept.ensures.done
