-- Some parts were read.
use Rattle.dom_selectors.proofs.Cited.{ap, ◌∙◌, Some, arith, part_view}
use Rattle.dom_selectors.proofs.FoundCompounds.{parts_found}
use Rattle.dom_selectors.proofs.compounds.read_compound.Goals as goal

pub returns : goal.returns
returns c =
    let empty = c.is_empty.ensures in
    let other = c.if-is_empty.false in
    ap (λ ps. Some (ps, c.in_ok-parts.rest.now)) c.of.ensures
    ∙ parts_found part_view c.args.units.now c.in_ok-parts.parts.items
    c.in_ok-typed.ensures c.in_ok-parts.ensures (λ h. grind (arith, h, empty, other))
