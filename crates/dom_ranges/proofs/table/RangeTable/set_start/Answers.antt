use Rattle.dom_ranges.proofs.Cited.{at}
use Rattle.dom_ranges.proofs.Naming.{set-named, start-rule}
use Rattle.dom_ranges.proofs.table.RangeTable.set_start.Goals as goal

pub returns-clause-named : goal.returns-clause-named
returns-clause-named c = λ o.
    set-named c.args.self.now c.args.owner c.args.number (start-rule c.args.forest.now (at c.args.node c.args.offset)) o
    (c.write.ensures o, c.with_start.ensures, c.in_ok-points.ensures.points)
