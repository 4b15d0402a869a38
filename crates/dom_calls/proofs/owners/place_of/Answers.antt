-- The place at which the owner was found.
use Rattle.dom_base.proofs.Std.{sym, ◌∙◌}
use Rattle.dom_calls.proofs.Places.{one_owner}
use Rattle.dom_calls.proofs.owners.place_of.Goals as goal

pub returns-then-eq-clause-owner : goal.returns-then-eq-clause-owner
returns-then-eq-clause-owner c =
    sym c.owner_in.ensures ∙ one_owner c.owner_in.result.now c.args.owner.now (sym c.eq.ensures ∙ c.if-eq.true)
