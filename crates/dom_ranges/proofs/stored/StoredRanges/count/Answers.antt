use Rattle.dom_ranges.proofs.Cited.{ℕ, ap, ◌∙◌, length, Option}
use Rattle.dom_ranges.proofs.Writing.{Shows-view, length-ranges}
use Rattle.dom_ranges.proofs.stored.StoredRanges.count.Goals as goal

pub returns : goal.returns
returns c =
    ap (length {A = Option ℕ}) c.of.ensures
    ∙ length-ranges c.self.inside.live c.self.inside.numbers _ (Shows-view c.self.inside.live c.self.inside.numbers _ c.self.view_is) c.args.owner
