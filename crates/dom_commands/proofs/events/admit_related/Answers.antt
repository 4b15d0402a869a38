use Rattle.dom_commands.proofs.Cited.{None, Some, sym, ◌∙◌, err_from_is_err_and}
use Rattle.dom_commands.proofs.Admitting.{related_passes, related_stops}
use Rattle.dom_commands.proofs.events.admit_related.Goals as goal

pub returns-in_err-admit-clause-refusal : goal.returns-in_err-admit-clause-refusal
returns-in_err-admit-clause-refusal c =
    let p = err_from_is_err_and c.from_residual.result c.from_residual.ensures.1 in
    λ e. rw (p.1, p.2) (related_stops c.args.state.now.world c.args.owner c.args.target c.args.related e c.in_err-admit.field-0.0
    (sym c.admit.ensures ∙ c.in_err-admit.was))

pub returns-in-None-clause-refusal : goal.returns-in-None-clause-refusal
returns-in-None-clause-refusal c =
    λ e. related_passes c.args.state.now.world c.args.owner c.args.target c.args.related e None (sym c.admit.ensures ∙ c.in_ok-admit.was)
    (sym c.in-None.is ∙ c.related_refusal.ensures)

pub returns-in-Some-clause-refusal : goal.returns-in-Some-clause-refusal
returns-in-Some-clause-refusal c =
    λ e. related_passes c.args.state.now.world c.args.owner c.args.target c.args.related e (Some c.in-Some.refusal)
    (sym c.admit.ensures ∙ c.in_ok-admit.was) (sym c.in-Some.is ∙ c.related_refusal.ensures)
