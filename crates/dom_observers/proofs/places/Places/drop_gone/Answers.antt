use Rattle.dom_base.proofs.Std.{ℕ, Bool, sym, subst, rules, tests, is_some, filter_same}
use Rattle.dom_observers.specs.Definitions.{there_in, places_in, AreThinned}
use Rattle.dom_observers.proofs.Thinning.{thinned-all}
use Rattle.dom_observers.proofs.places.Places.drop_gone.Goals as goal

pub returns-in-More : goal.returns-in-More
returns-in-More c =
    let rs = c.args.registrations.now in
    let q : ℕ → Bool = λ j. is_some (there_in rs j) in
    let list = c.in-More.list.items in
    let same = filter_same _ q _ (λ x b g k. (search (rules, tests), search (rules, tests))) list c.retain.new.self.items c.retain.ensures.filtered in
    subst (λ p. AreThinned rs (places_in p) c.retain.new.self.items) (sym c.in-More.is)
    (subst (AreThinned rs list) (sym same) (thinned-all rs list))
