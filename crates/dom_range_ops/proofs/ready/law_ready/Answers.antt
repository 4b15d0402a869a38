use Rattle.dom_range_ops.proofs.Cited.{Some, subst, EndsIn, ends-at, part_of, bare, bare-tables}
use Rattle.dom_range_ops.proofs.ready.law_ready.Goals as goal

pub returns-clause-bounds : goal.returns-clause-bounds
returns-clause-bounds c d o h = (h o).bounds

pub returns-clause-ends : goal.returns-clause-ends
returns-clause-ends c d o k h r e =
    let p = part_of d.world o in
    let ends : EndsIn p.trees (Some r) = subst (EndsIn p.trees) e (ends-at (bare p) k (bare-tables p (h o).ends)) in ends

pub returns-clause-roots : goal.returns-clause-roots
returns-clause-roots c d o h = (h o).roots
