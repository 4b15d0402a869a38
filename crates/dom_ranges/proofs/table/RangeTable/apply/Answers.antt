use Rattle.dom_ranges.proofs.Cited.{◌∙◌}
use Rattle.dom_ranges.proofs.Pending.{ranges-by}
use Rattle.dom_ranges.proofs.table.RangeTable.apply.Goals as goal

pub apply-requires : goal.apply-requires
apply-requires g c = rw (c.settle.ensures, c.self.view_is) c.requires

pub returns : goal.returns
returns g c = ranges-by (g.C.Change.rule c.args.change.now) c.apply.ensures (c.settle.ensures ∙ c.self.view_is)
