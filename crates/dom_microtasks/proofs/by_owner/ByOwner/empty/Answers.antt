use Rattle.dom_base.proofs.Std.{[], sym, ◌∙◌}
use Rattle.dom_microtasks.proofs.Places.{changed_at}
use Rattle.dom_microtasks.proofs.by_owner.ByOwner.empty.Goals as goal

pub returns-in-Some : goal.returns-in-Some
returns-in-Some c = record {
  numbers = λ o. changed_at (λ ns. []) _ _ _ c.args.owner c.in-Some.place (sym c.place_of.ensures.value ∙ c.in-Some.is) c.empty_at.ensures.numbers o;
  since = λ o. changed_at (λ n. c.args.since) _ _ _ c.args.owner c.in-Some.place (sym c.place_of.ensures.value ∙ c.in-Some.is) c.empty_at.ensures.since o;
}
