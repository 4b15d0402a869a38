-- A word that is not at its end is not in front of nothing.
use Rattle.dom_selectors.proofs.Cited.{◌∙◌, sym, drop, length-drop, arith}
use Rattle.dom_selectors.proofs.ValueLaws.{too_long}
use Rattle.dom_selectors.proofs.values.begins_with_word.Goals as goal

pub returns-in_default : goal.returns-in_default
returns-in_default c =
    let left = drop c.loop-unit.unit-index c.args.word.now in
    sym (too_long left c.loop-unit.rest.now
    (omega (arith, length-drop c.loop-unit.unit-index c.args.word.now, c.loop-unit-test.true, c.in_default.len_below)))
    ∙ c.loop-unit.invariant
