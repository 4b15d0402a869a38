use Rattle.dom_ranges.proofs.Cited.{ap, sym, ◌∙◌, option_map, range_from, range_kept}
use Rattle.dom_ranges.proofs.Writing.{Shows-view, range_in-held}
use Rattle.dom_ranges.proofs.stored.StoredRanges.points.Goals as goal

pub returns-in_err-slot : goal.returns-in_err-slot
returns-in_err-slot c =
    ap (option_map range_from) c.from_residual.ensures
    ∙ sym (range_in-held c.self.inside.live c.self.inside.numbers _ (Shows-view c.self.inside.live c.self.inside.numbers _ c.self.view_is)
    c.args.owner c.args.number
    ∙ ap (range_kept c.self.inside.live) (sym c.in_err-slot.ensures))

pub returns : goal.returns
returns c =
    ap (option_map range_from) (c.copied.ensures ∙ c.get.ensures)
    ∙ sym (range_in-held c.self.inside.live c.self.inside.numbers _ (Shows-view c.self.inside.live c.self.inside.numbers _ c.self.view_is)
    c.args.owner c.args.number
    ∙ ap (range_kept c.self.inside.live) (sym c.in_ok-slot.ensures))
