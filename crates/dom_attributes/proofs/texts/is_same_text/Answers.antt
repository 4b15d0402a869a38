use Rattle.dom_base.proofs.Std.{◌≡◌, length, slice_index_or, ap, sym, ◌∙◌, arith, ext_get_or, bytes_eq-Decides}
use Rattle.dom_attributes.proofs.Attributes.{text_test, differ}
use Rattle.dom_attributes.proofs.texts.is_same_text.Goals as goal

pub returns-then-bytes-others-clause-text : goal.returns-then-bytes-others-clause-text
returns-then-bytes-others-clause-text c =
    differ c.args.text.now c.args.other.now
    (λ e. c.if-bytes-others.true (ap length (c.as_bytes-bytes.ensures.value ∙ (e ∙ sym c.as_bytes-others.ensures.value))))

pub returns-then-bytes-index-clause-text : goal.returns-then-bytes-index-clause-text
returns-then-bytes-index-clause-text c =
    differ c.args.text.now c.args.other.now
    (λ e. c.if-bytes-index.true (ap (λ xs. slice_index_or xs c.loop-index.index 0)
    (c.as_bytes-bytes.ensures.value ∙ (e ∙ sym c.as_bytes-others.ensures.value))))

pub returns-clause-bytes : goal.returns-clause-bytes
returns-clause-bytes c =
    let end = c.loop-index-test.false in
    let same : c.as_bytes-bytes.result.now ≡ c.as_bytes-others.result.now =
    ext_get_or 0 c.as_bytes-bytes.result.now c.as_bytes-others.result.now c.if-bytes-others.false
    (λ i l. c.loop-index.invariant i (omega (arith, l, end))) in
    sym ((bytes_eq-Decides c.args.text.now c.args.other.now).1
    (sym c.as_bytes-bytes.ensures.value ∙ (same ∙ c.as_bytes-others.ensures.value)))

pub returns-clause-text : goal.returns-clause-text
returns-clause-text c = returns-clause-bytes c ∙ text_test c.args.text.now c.args.other.now
