use Rattle.dom_ranges.proofs.Cited.{Option, ap, sym, ◌∙◌, ℕ, slice_set, option_map, Range, collapsed_range, ranges_of, with_ranges}
use Rattle.dom_ranges.proofs.Writing.{not_there}
use Rattle.dom_ranges.proofs.table.RangeTable.collapse.Goals as goal

pub returns-in_default-clause-table : goal.returns-in_default-clause-table
returns-in_default-clause-table c =
    λ o. not_there c.args.self.now c.args.owner c.args.number (sym c.in_default.ensures) o
    ∙ ap (λ (r : Option (Range ℕ)). with_ranges c.args.self.now c.args.owner
    (slice_set (ranges_of c.args.self.now c.args.owner) c.args.number (option_map (collapsed_range c.args.to_start) r)) o) c.in_default.ensures
