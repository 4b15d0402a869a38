use Rattle.dom_commands.proofs.Cited.{refl, may_act, plans, refused}
use Rattle.dom_commands.proofs.RangePlans.{naming-delete}
use Rattle.dom_commands.proofs.ranging.delete.Goals as goal

pub returns-in_err-admit-clause-handled : goal.returns-in_err-admit-clause-handled
returns-in_err-admit-clause-handled g c =
    refused g.A.Answers.adds _ _ _ _ _ _ (naming-delete c.args.owner c.args.number) c.admit.ensures c.in_err-admit.was c.from_residual.ensures.1

pub returns-clause-handled : goal.returns-clause-handled
returns-clause-handled g c =
    plans g.A.Answers.adds _ c.state.inside.doc _ c.state.view_is
    (may_act _ _ _ _ (naming-delete c.args.owner c.args.number) c.admit.ensures c.in_ok-admit.was) _ _ _ _ refl refl refl c.in_ok-delete.ensures.world
    c.accept.ensures.done
