use Rattle.dom_ranges.proofs.Cited.{◌≡◌, refl, sym, subst, ◌∙◌, IsSome, Owner, Numbers, slots_of}
use Rattle.dom_ranges.proofs.SlotLists.{slots-reserved}
use Rattle.dom_ranges.proofs.numbers.Numbers.reserve.Goals.{After-reserve-in-Some}
use Rattle.dom_ranges.proofs.numbers.Numbers.reserve.Goals as goal

-- the lists hold what they held
kept : (c : After-reserve-in-Some) → (o : Owner) →
    slots_of record { page = c.begin.new.self.page; components = c.get_mut.follows.lender c.reserve-in-Some.new.self; alloc = c.begin.new.self.alloc } o
    ≡ slots_of c.args.self.now o
kept c o =
    let r : Numbers =
    record { page = c.begin.new.self.page; components = c.get_mut.follows.lender c.reserve-in-Some.new.self; alloc = c.begin.new.self.alloc } in
    slots-reserved c.begin.new.self r refl c.args.owner c.reserve-in-Some.new.self
    (λ p. ((c.get_mut.follows.holds c.reserve-in-Some.new.self).3 (subst IsSome c.in-Some.ensures.value refl)).0 p) (sym c.in-Some.ensures.value)
    c.reserve-in-Some.ensures.items o ∙ c.begin.ensures.slots o

pub returns-in_err-reserve-clause-slots : goal.returns-in_err-reserve-clause-slots
returns-in_err-reserve-clause-slots c = kept (goal.at.returns-in_err-reserve-clause-slots c).After-reserve-in-Some

pub returns-in_ok-reserve-clause-slots : goal.returns-in_ok-reserve-clause-slots
returns-in_ok-reserve-clause-slots c = kept (goal.at.returns-in_ok-reserve-clause-slots c).After-reserve-in-Some
