use Rattle.dom_ranges.proofs.table.RangeTable.on_split.Goals as goal

pub apply-requires : goal.apply-requires
apply-requires c = c.requires c.in-Some.at c.in-Some.is
