use Rattle.dom_base.proofs.Std.{◌∙◌, sym, arith}
use Rattle.dom_attributes.proofs.SignLaws.{classed-space, classed-unit, classed-all}
use Rattle.dom_attributes.proofs.signs.classes_bits.Goals as goal
use Rattle.dom_attributes.proofs.signs.classes_bits.Goals.{then-is_space, else-is_space}

pub loop-unit-preserved : goal.loop-unit-preserved
loop-unit-preserved c =
    let value = c.args.value.now in
    let at = c.loop-unit in
    elim c.if-is_space.branch [
      | then-is_space w ↦ rw (w.bits-is, w.bits_of-bits.ensures, w.number-is)
          (classed-space value at.bits at.number at.unit-index c.loop-unit-test.true (sym c.is_space.ensures ∙ w.if-is_space.true) at.invariant)
      | else-is_space w ↦ rw (w.bits-is, w.number-is, w.mix-number.ensures, w.from.ensures)
          (classed-unit value at.bits at.number at.unit-index c.loop-unit-test.true (sym c.is_space.ensures ∙ w.if-is_space.false) at.invariant)
    ]

pub returns : goal.returns
returns c = rw c.bits_of.ensures (classed-all (omega arith) c.loop-unit.invariant)
