use Rattle.dom_commands.proofs.Cited.{ap, refl, Range, may_act, refused, tells, thing_there}
use Rattle.dom_model.proofs.Model.{a_string}
use Rattle.dom_commands.proofs.RangePlans.{naming-text, text_told}
use Rattle.dom_commands.proofs.ranging.text_of_range.Goals as goal

pub returns-in_err-admit-clause-handled : goal.returns-in_err-admit-clause-handled
returns-in_err-admit-clause-handled g c =
    refused g.A.Answers.adds _ _ _ _ _ _ (naming-text c.args.owner c.args.number) c.admit.ensures c.in_err-admit.was c.from_residual.ensures.1

pub returns-clause-handled : goal.returns-clause-handled
returns-clause-handled g c =
    let known = thing_there _ c.state.inside.doc _ c.state.view_is _ (Range c.args.number) c.admit.ensures c.in_ok-admit.was in
    let text = text_told c.state.inside.doc.world c.args.owner c.args.number c.in_ok-text.text.items known c.in_ok-text.ensures in
    tells g.A.Answers.adds _ c.state.inside.doc _ c.state.view_is
    (may_act _ _ _ _ (naming-text c.args.owner c.args.number) c.admit.ensures c.in_ok-admit.was) _ _ _ _ refl refl text (ap a_string c.deref.ensures.value)
    c.accept.ensures.done
