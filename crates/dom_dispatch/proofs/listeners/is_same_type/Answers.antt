-- Texts that differ in their length or at their end are not the same.
use Rattle.dom_dispatch.proofs.Cited.{◌-◌, length, slice_index_or, ap, sym, ◌∙◌, differ}
use Rattle.dom_dispatch.proofs.listeners.is_same_type.Goals as goal

pub returns-then-bytes-others : goal.returns-then-bytes-others
returns-then-bytes-others c =
    differ c.args.event.now c.args.other.now
    (λ e. c.if-bytes-others.true (ap length (c.as_bytes-bytes.ensures.value ∙ (e ∙ sym c.as_bytes-others.ensures.value))))

pub returns-then-bytes-end : goal.returns-then-bytes-end
returns-then-bytes-end c =
    differ c.args.event.now c.args.other.now
    (λ e. c.if-bytes-end.true (ap (λ xs. slice_index_or xs (length c.as_bytes-bytes.result.now - 1) 0)
    (c.as_bytes-bytes.ensures.value ∙ (e ∙ sym c.as_bytes-others.ensures.value))))
