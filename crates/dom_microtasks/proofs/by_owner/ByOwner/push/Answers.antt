use Rattle.dom_base.proofs.Std.{◌++◌, ◌∷◌, [], sym, ap, ◌∙◌, if◌then◌else◌, on_ok_weaker}
use Rattle.dom_model.proofs.Model.{Owner, owner_eq}
use Rattle.dom_microtasks.specs.ByOwner.{numbers_at, numbers_in}
use Rattle.dom_microtasks.proofs.Places.{changed_at}
use Rattle.dom_microtasks.proofs.by_owner.ByOwner.push.Goals as goal

pub returns-in-Some-clause-numbers : goal.returns-in-Some-clause-numbers
returns-in-Some-clause-numbers c =
    on_ok_weaker c.push_at.result
    (λ told (o : Owner).
    changed_at (λ ns. ns ++ c.args.slot.number ∷ []) (numbers_at c.prepare.new.self.listed.items) (numbers_at c.push_at.new.listed.items)
    (numbers_in c.prepare.new.self.others o) c.args.slot.owner c.in-Some.place (sym c.place_of.ensures.value ∙ c.in-Some.is) told o
    ∙ ap (λ ns. if owner_eq c.args.slot.owner o then ns ++ c.args.slot.number ∷ [] else ns) (c.in_ok-prepare.ensures.numbers o)) c.push_at.ensures.numbers
