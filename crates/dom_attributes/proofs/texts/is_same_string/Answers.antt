use Rattle.dom_base.proofs.Std.{length, slice_index_or, ap, sym, ◌∙◌, arith, ext_get_or, bytes_eq-Decides}
use Rattle.dom_attributes.proofs.Attributes.{text_test, differ}
use Rattle.dom_attributes.proofs.texts.is_same_string.Goals as goal

pub returns-then-string-other : goal.returns-then-string-other
returns-then-string-other c = differ c.args.string.now c.args.other.now (λ e. c.if-string-other.true (ap length e))

pub returns-then-string-index : goal.returns-then-string-index
returns-then-string-index c =
    differ c.args.string.now c.args.other.now (λ e. c.if-string-index.true (ap (λ xs. slice_index_or xs c.loop-index.index 0) e))

pub returns : goal.returns
returns c =
    sym ((bytes_eq-Decides c.args.string.now c.args.other.now).1
    (ext_get_or 0 c.args.string.now c.args.other.now c.if-string-other.false
    (λ i l. c.loop-index.invariant i (omega (arith, l, c.loop-index-test.false))))) ∙ text_test c.args.string.now c.args.other.now
