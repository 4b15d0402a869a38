use Rattle.dom_ranges.proofs.Cited.{◌≡◌, ℕ, List, [], ◌∷◌, ◌++◌, true, false, IsSome, sym, subst, refl, ap, ◌∙◌, length, Option, arith, IsPermutation}
use Rattle.dom_ranges.proofs.Cited.{get, Slab, at, end_in, HaveNumbers, IsListed, IsSortedByPoint, Points, RangeEnd, ranges_of}
use Rattle.dom_ranges.proofs.Listing.{IsListed-added, IsListed-same}
use Rattle.dom_ranges.proofs.Writing.{Shows, Shows-view, Shows-same, HaveNumbers-same, HaveNumbers-pushed, ranges-shown, ranges-pushed, length-ranges}
use Rattle.dom_tree.proofs.OwnerLists.{on_err}
use Rattle.dom_ranges.proofs.stored.StoredRanges.add.Goals as goal

pub returns-in_err-reserve-clause-err : goal.returns-in_err-reserve-clause-err
returns-in_err-reserve-clause-err c =
    on_err c.from_residual.result (λ o. ranges-shown c.self.inside.live c.reserve.new.self _
    (Shows-same c.self.inside.live c.self.inside.live c.self.inside.numbers c.reserve.new.self _
    (Shows-view c.self.inside.live c.self.inside.numbers _ c.self.view_is) (λ s. refl) c.reserve.ensures.slots) o)

pub returns-in_err-reserve-2-clause-err : goal.returns-in_err-reserve-2-clause-err
returns-in_err-reserve-2-clause-err c =
    on_err c.from_residual-in_err-reserve-2.result (λ o. ranges-shown c.self.inside.live c.reserve.new.self _
    (Shows-same c.self.inside.live c.self.inside.live c.self.inside.numbers c.reserve.new.self _
    (Shows-view c.self.inside.live c.self.inside.numbers _ c.self.view_is) (λ s. refl) c.reserve.ensures.slots) o)

pub invariant_of-self-in_err-slot : goal.invariant_of-self-in_err-slot
invariant_of-self-in_err-slot c =
    let same = λ (s : ℕ). ap (λ (t : Slab Points). get t s) c.in_err-slot.ensures.err in (
      HaveNumbers-same c.insert.new.self c.reserve.new.self
          (λ s. (λ i. subst IsSome (same s) i, λ i. subst IsSome (sym (same s)) i)) c.reserve.ensures.slots c.self.invariant.0,
      subst (IsListed c.insert.new.self) (sym c.reserve-2.ensures.items)
          (IsListed-same c.self.inside.live c.insert.new.self c.self.inside.ends.items same c.self.invariant.1),
      subst IsSortedByPoint (sym c.reserve-2.ensures.items) c.self.invariant.2,
    )

pub returns-in_err-slot-clause-err : goal.returns-in_err-slot-clause-err
returns-in_err-slot-clause-err c =
    on_err c.from_residual-in_err-slot.result (λ o. ranges-shown c.insert.new.self c.reserve.new.self _
    (Shows-same c.self.inside.live c.insert.new.self c.self.inside.numbers c.reserve.new.self _
    (Shows-view c.self.inside.live c.self.inside.numbers _ c.self.view_is)
    (λ s. ap (λ (t : Slab Points). get t s) c.in_err-slot.ensures.err) c.reserve.ensures.slots) o)

-- the number that is given
counted : (c : goal.After-list_range) → length c.of-number.result.now ≡ length (ranges_of c.args.self.now c.args.owner)
counted c =
    ap (length {A = Option ℕ}) c.of-number.ensures
    ∙ length-ranges c.self.inside.live c.self.inside.numbers _ (Shows-view c.self.inside.live c.self.inside.numbers _ c.self.view_is) c.args.owner

-- the lists with their room
roomy : (c : goal.After-list_range) → Shows c.self.inside.live c.reserve.new.self c.args.self.now × HaveNumbers c.self.inside.live c.reserve.new.self
roomy c = (
  Shows-same c.self.inside.live c.self.inside.live c.self.inside.numbers c.reserve.new.self _
      (Shows-view c.self.inside.live c.self.inside.numbers _ c.self.view_is) (λ s. refl) c.reserve.ensures.slots,
  HaveNumbers-same c.self.inside.live c.reserve.new.self (λ s. (λ i. i, λ i. i))
      c.reserve.ensures.slots c.self.invariant.0,
)

pub overflow_cast-result : goal.overflow_cast-result
overflow_cast-result c = omega (arith, counted c)

-- what holds of the slots and the lists
held-then : (c : goal.After-list_range) → HaveNumbers c.insert.new.self c.push.new.self
held-then c =
    HaveNumbers-pushed c.self.inside.live c.insert.new.self c.reserve.new.self c.push.new.self c.in_ok-slot.slot c.args.owner _ (roomy c).1
    c.in_ok-slot.ensures.was_vacant c.in_ok-slot.ensures.updates c.push.ensures

pub invariant_of-self-2 : goal.invariant_of-self-2
invariant_of-self-2 c = (
  held-then c,
  IsListed-added c.self.invariant.1 c.in_ok-slot.ensures.was_vacant c.in_ok-slot.ensures.updates refl refl
      (subst (λ (xs : List RangeEnd). IsPermutation
      (xs ++ end_in c.in_ok-slot.slot false (at c.args.node 0) ∷ end_in c.in_ok-slot.slot true (at c.args.node 0) ∷ []) c.list_range.new.ends.items)
      c.reserve-2.ensures.items c.list_range.ensures.listed),
  c.list_range.ensures.sorted,
)

pub returns-clause-number : goal.returns-clause-number
returns-clause-number c = counted c

pub returns-clause-made : goal.returns-clause-made
returns-clause-made c =
    ranges-pushed c.self.inside.live c.insert.new.self c.reserve.new.self c.push.new.self c.in_ok-slot.slot c.args.owner _ (roomy c).1
    c.in_ok-slot.ensures.was_vacant c.in_ok-slot.ensures.updates c.push.ensures
    c.args.self.now (roomy c).0
