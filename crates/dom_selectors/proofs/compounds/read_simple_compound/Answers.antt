-- Some simple selectors were read.
use Rattle.dom_selectors.proofs.Cited.{arith, simple_view}
use Rattle.dom_selectors.proofs.FoundCompounds.{simples_found}
use Rattle.dom_selectors.proofs.compounds.read_simple_compound.Goals as goal

pub returns : goal.returns
returns c =
    let empty = c.is_empty.ensures in
    let other = c.if-is_empty.false in
    simples_found simple_view c.args.units.now
    c.in_ok-simples.simples.items
    c.in_ok-typed.ensures c.in_ok-simples.ensures (λ h. grind (arith, h, empty, other))
