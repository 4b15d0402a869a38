-- The bytes up to the quote are its units.
use Rattle.dom_base.proofs.Std.{take, drop, ap, ◌∙◌, arith}
use Rattle.dom_words.proofs.Items.{items_read}
use Rattle.dom_words.proofs.strings.units_at.Goals as goal

pub returns-in_ok-as_units-in-34 : goal.returns-in_ok-as_units-in-34
returns-in_ok-as_units-in-34 c =
    let s = c.split_at.ensures in
    items_read c.args.bytes.now c.split_at.result.1.now
    (c.in_ok-as_units-in-34.ensures ∙ s.front ∙ ap (λ n. take n c.args.bytes.now) c.items_len.ensures.count)
    (s.back ∙ ap (λ n. drop n c.args.bytes.now) c.items_len.ensures.count)
    c.in-34.len_at_least (omega arith)
