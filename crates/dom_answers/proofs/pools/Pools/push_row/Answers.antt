-- One row more, which has its words within the arrays.
use Rattle.dom_base.proofs.Std.{subst, sym}
use Rattle.dom_answers.specs.Arrays.{Arrays, IsRow}
use Rattle.dom_answers.proofs.Kept.{sound-row}
use Rattle.dom_answers.proofs.pools.Pools.push_row.Goals as goal

pub invariant_of-self-2 : goal.invariant_of-self-2
invariant_of-self-2 c =
    sound-row _ c.args.row c.push.new.self.items c.self.invariant
    (subst (λ (a : Arrays). IsRow a c.args.row) (sym c.self.view_is) c.requires) c.in_ok-push.ensures.items

pub returns-clause-sound : goal.returns-clause-sound
returns-clause-sound c =
    sound-row _ c.args.row c.push.new.self.items c.self.invariant
    (subst (λ (a : Arrays). IsRow a c.args.row) (sym c.self.view_is) c.requires) c.in_ok-push.ensures.items
