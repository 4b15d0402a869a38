-- ASCII units are text.
use Rattle.dom_selectors.proofs.Cited.{◌≡◌, sym, subst, ◌∙◌, arith, IsAscii, take_all, IsUtf8-from_ascii}
use Rattle.dom_selectors.proofs.tokens.text_of.Goals as goal

pub unreachable-requires : goal.unreachable-requires
unreachable-requires c =
    let whole : c.loop-unit.bytes.items ≡ c.args.units.now = c.loop-unit.invariant ∙ take_all c.loop-unit.unit-index c.args.units.now c.loop-unit-test.false in
    let text = IsUtf8-from_ascii c.loop-unit.bytes.items (subst IsAscii (sym whole) c.requires) in
    grind (arith, text)
