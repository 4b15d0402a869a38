use Rattle.dom_ranges.proofs.Cited.{◌≡◌, None, is_some, ap, sym, ◌∙◌, slice_get_within, get, range_in, range_kept, ranges_of, slots_of, StandsUnder}
use Rattle.dom_ranges.proofs.Writing.{Shows-view, range_in-held, slot-under, not_there, is_some-kept, HaveNumbers-cleared, ranges-cleared}
use Rattle.dom_ranges.proofs.stored.StoredRanges.remove.Goals as goal

-- no range has this number
absent : (c : goal.In_default) → range_in (ranges_of c.args.self.now c.args.owner) c.args.number ≡ None
absent c =
    range_in-held c.self.inside.live c.self.inside.numbers _ (Shows-view c.self.inside.live c.self.inside.numbers _ c.self.view_is) c.args.owner c.args.number
    ∙ ap (range_kept c.self.inside.live) (sym c.in_default.ensures)

pub returns-in_default-clause-there : goal.returns-in_default-clause-there
returns-in_default-clause-there c = ap is_some (sym (absent c))

pub returns-in_default-clause-table : goal.returns-in_default-clause-table
returns-in_default-clause-table c = not_there c.args.self.now c.args.owner c.args.number (absent c)

pub clear-requires : goal.clear-requires
clear-requires c = slice_get_within (slots_of c.self.inside.numbers c.args.owner) c.args.number _
    (slot-under c.self.inside.numbers c.args.owner c.args.number c.in-Some.slot c.in-Some.ensures)

-- the slot stands under the number
under : (c : goal.After-drop_range) → StandsUnder c.self.inside.numbers c.in-Some.slot c.args.owner c.args.number
under c = slot-under c.self.inside.numbers c.args.owner c.args.number c.in-Some.slot c.in-Some.ensures

pub invariant_of-self : goal.invariant_of-self
invariant_of-self c = (
  HaveNumbers-cleared c.self.inside.live c.drop_range.new.live c.self.inside.numbers c.clear.new.self c.in-Some.slot c.args.number c.args.owner
      c.self.invariant.0 (under c) c.drop_range.ensures.updates c.clear.ensures,
  c.drop_range.ensures.listed,
  c.drop_range.ensures.sorted,
)

pub returns-clause-there : goal.returns-clause-there
returns-clause-there c =
    sym (ap is_some (range_in-held c.self.inside.live c.self.inside.numbers _
    (Shows-view c.self.inside.live c.self.inside.numbers _ c.self.view_is) c.args.owner c.args.number
    ∙ ap (range_kept c.self.inside.live) (sym c.in-Some.ensures))
    ∙ is_some-kept (get c.self.inside.live c.in-Some.slot) (c.self.invariant.0.held c.args.owner c.args.number c.in-Some.slot (under c)))

pub returns-clause-table : goal.returns-clause-table
returns-clause-table c =
    ranges-cleared c.self.inside.live c.drop_range.new.live c.self.inside.numbers c.clear.new.self c.in-Some.slot c.args.number c.args.owner
    c.self.invariant.0 (under c) c.drop_range.ensures.updates c.clear.ensures
    c.args.self.now (Shows-view c.self.inside.live c.self.inside.numbers _ c.self.view_is)
