use Rattle.dom_node_commands.proofs.Handlers.{◌∷◌, Element, [], may_act, namings, reads, refl, refused}
use Rattle.dom_node_commands.proofs.shadows.shadow_root.Goals as goal

pub returns-in_err-admit-clause-handled : goal.returns-in_err-admit-clause-handled
returns-in_err-admit-clause-handled g c =
    refused g.A.Answers.adds _ _ _ (Element c.args.element ∷ []) _ _ (search namings) c.admit.ensures c.in_err-admit.was c.from_residual.ensures.1

pub returns-clause-handled : goal.returns-clause-handled
returns-clause-handled g c =
    reads g.A.Answers.adds (may_act _ _ _ (Element c.args.element ∷ []) (search namings) c.admit.ensures c.in_ok-admit.was) _ _ _ _ refl refl refl
    c.accept.ensures.done
