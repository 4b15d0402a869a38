-- One attribute more, which has its name and its value within the arrays.
use Rattle.dom_base.proofs.Std.{subst, sym}
use Rattle.dom_answers.specs.Arrays.{Arrays, IsAttribute}
use Rattle.dom_answers.proofs.Kept.{sound-attribute}
use Rattle.dom_answers.proofs.pools.Pools.push_attribute.Goals as goal

pub invariant_of-self-2 : goal.invariant_of-self-2
invariant_of-self-2 c =
    sound-attribute _ c.args.spans c.push.new.self.items c.self.invariant
    (subst (λ (a : Arrays). IsAttribute a c.args.spans) (sym c.self.view_is) c.requires) c.in_ok-push.ensures.items

pub returns-clause-sound : goal.returns-clause-sound
returns-clause-sound c =
    sound-attribute _ c.args.spans c.push.new.self.items c.self.invariant
    (subst (λ (a : Arrays). IsAttribute a c.args.spans) (sym c.self.view_is) c.requires) c.in_ok-push.ensures.items
