use Rattle.dom_ranges.proofs.Cited.{Some, true, is_some, length, subst, arith, refl, ap, sym, ◌∙◌, true≢false, option_map, IsSome, IsListed, IsSortedByPoint}
use Rattle.dom_ranges.proofs.Cited.{range_kept, RangeEnd, with_end_at, Updates, get}
use Rattle.dom_ranges.proofs.Writing.{Shows-view, range_in-held, slot-under, ranges-written, HaveNumbers-same, HoldSame-written}
use Rattle.dom_ranges.proofs.Listing.{both-put}
use Rattle.dom_ranges.proofs.Gathering.{written-back}
use Rattle.dom_ranges.proofs.stored.StoredRanges.write.Goals.{After-put_end-in-Some}
use Rattle.dom_ranges.proofs.stored.StoredRanges.write.Goals as goal

-- the slot of the range holds one
held : (c : After-put_end-in-Some) → IsSome (get c.self.inside.live c.in-Some.slot)
held c = c.self.invariant.0.held c.args.owner c.args.number c.in-Some.slot
    (slot-under c.self.inside.numbers c.args.owner c.args.number c.in-Some.slot c.in-Some.ensures)

-- and gets the ends
updates : (c : After-put_end-in-Some) → Updates c.self.inside.live c.put_end-in-Some.new.live c.in-Some.slot (Some c.args.points)
updates c = record {
  changed = c.put_end-in-Some.ensures.put ∙
      (ap (option_map (with_end_at true c.args.points.end.0 c.args.points.end.1)) c.put_end.ensures.put ∙
      both-put (get c.self.inside.live c.in-Some.slot) c.args.points (held c));
  others = λ s off. c.put_end-in-Some.ensures.others s off ∙ c.put_end.ensures.others s off;
}

pub returns-in-Some : goal.returns-in-Some
returns-in-Some c =
    ranges-written c.self.inside.live c.self.inside.numbers _ (Shows-view c.self.inside.live c.self.inside.numbers _ c.self.view_is)
    c.args.number c.args.owner c.self.invariant.0 (slot-under c.self.inside.numbers c.args.owner c.args.number c.in-Some.slot c.in-Some.ensures)
    (updates (goal.at.returns-in-Some c).After-put_end-in-Some)

pub put_end-requires-clause-held : goal.put_end-requires-clause-held
put_end-requires-clause-held c = c.self.invariant.0.held c.args.owner c.args.number c.in-Some.slot
    (slot-under c.self.inside.numbers c.args.owner c.args.number c.in-Some.slot c.in-Some.ensures)

pub invariant_of-self : goal.invariant_of-self
invariant_of-self c =
    let at = (goal.at.invariant_of-self c).After-put_end-in-Some in
    let back = sym (written-back c.self.inside.ends.items c.put_end-in-Some.new.ends c.self.inside.ends.len
    (c.put_end-in-Some.auto.ends ∙ (c.put_end.auto.ends ∙ ap (length {A = RangeEnd}) c.as_mut_slice-ends.ensures.value))
    (omega (arith, c.self.inside.ends.ok.0))) in (
      HaveNumbers-same c.put_end-in-Some.new.live c.self.inside.numbers
          (HoldSame-written c.self.inside.live c.put_end-in-Some.new.live c.in-Some.slot c.args.points (updates at) (held at)) (λ o. refl) c.self.invariant.0,
      subst (IsListed c.put_end-in-Some.new.live) back c.put_end-in-Some.ensures.listed,
      subst IsSortedByPoint back c.put_end-in-Some.ensures.sorted,
    )

pub returns-in_default : goal.returns-in_default
returns-in_default c =
    absurd (true≢false (sym c.requires ∙ ap is_some
    (range_in-held c.self.inside.live c.self.inside.numbers _ (Shows-view c.self.inside.live c.self.inside.numbers _ c.self.view_is) c.args.owner c.args.number
    ∙ ap (range_kept c.self.inside.live) (sym c.in_default.ensures))))
