use Rattle.dom_ranges.proofs.Cited.{length, ◌∙◌, ap, arith, nat_eq, map_ends, after_removal, index_of, name_at, is_inside, IsAtNode, RangeEnd}
use Rattle.dom_ranges.proofs.Gathering.{written-back}
use Rattle.dom_ranges.proofs.Leaving.{each-held, kept-moved}
use Rattle.dom_ranges.proofs.Writing.{Shows-view, lists-moved}
use Rattle.dom_ranges.proofs.stored.StoredRanges.remove_child.Goals as goal

pub move_out-requires-clause-ends : goal.move_out-requires-clause-ends
move_out-requires-clause-ends c =
    each-held (IsAtNode c.args.forest.now.names) c.self.inside.live c.self.inside.numbers _
    (Shows-view c.self.inside.live c.self.inside.numbers _ c.self.view_is) c.self.invariant.0 c.requires.ends

pub returns : goal.returns
returns c =
    let f = c.args.forest.now in
    lists-moved (map_ends (after_removal nat_eq (is_inside f c.args.node) c.args.parent (index_of f.trees (name_at f.names c.args.node))))
    c.self.inside.live c.move_out.new.live c.self.inside.numbers _ c.self.view_is c.move_out.ensures.moved

pub invariant_of-self : goal.invariant_of-self
invariant_of-self c =
    let f = c.args.forest.now in
    kept-moved (after_removal nat_eq (is_inside f c.args.node) c.args.parent (index_of f.trees (name_at f.names c.args.node)))
    c.move_out.ensures.moved c.self.invariant.0 c.move_out.ensures.listed c.move_out.ensures.sorted
    (written-back c.self.inside.ends.items c.move_out.new.ends c.self.inside.ends.len
    (c.move_out.auto.ends ∙ ap (length {A = RangeEnd}) c.as_mut_slice-ends.ensures.value) (omega (arith, c.self.inside.ends.ok.0)))
