use Rattle.dom_ranges.proofs.Cited.{length, ◌∙◌, ap, arith, map_ends, RangeEnd}
use Rattle.dom_ranges.proofs.Gathering.{written-back}
use Rattle.dom_ranges.proofs.Leaving.{each-held, kept-moved}
use Rattle.dom_ranges.proofs.Writing.{Shows-view, lists-moved}
use Rattle.dom_ranges.proofs.stored.StoredRanges.apply.Goals as goal

pub move_concerned-requires-clause-can_move : goal.move_concerned-requires-clause-can_move
move_concerned-requires-clause-can_move g c =
    each-held (g.C.Change.can_move c.args.change.now) c.self.inside.live c.self.inside.numbers _
    (Shows-view c.self.inside.live c.self.inside.numbers _ c.self.view_is) c.self.invariant.0 c.requires

pub returns : goal.returns
returns g c =
    lists-moved (map_ends (g.C.Change.rule c.args.change.now)) c.self.inside.live c.move_concerned.new.live c.self.inside.numbers _ c.self.view_is
    c.move_concerned.ensures.moved

pub invariant_of-self : goal.invariant_of-self
invariant_of-self g c =
    kept-moved (g.C.Change.rule c.args.change.now)
    c.move_concerned.ensures.moved c.self.invariant.0 c.move_concerned.ensures.listed c.move_concerned.ensures.sorted
    (written-back c.self.inside.ends.items c.move_concerned.new.ends c.self.inside.ends.len
    (c.move_concerned.auto.ends ∙ ap (length {A = RangeEnd}) c.as_mut_slice.ensures.value) (omega (arith, c.self.inside.ends.ok.0)))
