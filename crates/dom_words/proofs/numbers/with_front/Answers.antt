-- Each digit in front is read behind the number so far.
use Rattle.dom_base.proofs.Std.{get_or, sym, ◌∙◌, refl, arith}
use Rattle.dom_words.proofs.Digits.{one_digit, one_counted, no_digit, no_more, few_digits}
use Rattle.dom_words.proofs.numbers.with_front.Goals as goal

pub loop-d-init : goal.loop-d-init
loop-d-init c = (refl, refl, omega (arith, c.requires.one), omega arith)

pub overflow_mul-n : goal.overflow_mul-n
overflow_mul-n c =
    let d = get_or c.args.bytes.now c.loop-d.d-index 0 in
    omega (arith, few_digits c.loop-d.d-index c.loop-d.n d (omega arith) c.loop-d.invariant.2 (sym c.if-not-is_ascii_digit.ensures.value))

pub overflow_add-n : goal.overflow_add-n
overflow_add-n c =
    let d = get_or c.args.bytes.now c.loop-d.d-index 0 in
    omega (arith, few_digits c.loop-d.d-index c.loop-d.n d (omega arith) c.loop-d.invariant.2 (sym c.if-not-is_ascii_digit.ensures.value))

pub loop-d-preserved : goal.loop-d-preserved
loop-d-preserved c =
    let d = get_or c.args.bytes.now c.loop-d.d-index 0 in
    let digit = sym c.if-not-is_ascii_digit.ensures.value in
    let counted = one_counted c.loop-d.d-index c.args.bytes.now c.loop-d-test.true digit in (
      omega (arith, c.loop-d.invariant.0),
      one_digit c.loop-d.n c.loop-d.d-index c.args.bytes.now c.loop-d-test.true digit ∙ c.loop-d.invariant.1,
      (few_digits c.loop-d.d-index c.loop-d.n d (omega arith) c.loop-d.invariant.2 digit).3,
      omega (arith, counted, c.loop-d.invariant.3),
    )

pub returns-after-loop-d-clause-value : goal.returns-after-loop-d-clause-value
returns-after-loop-d-clause-value c =
    sym (no_more c.loop-d.n c.loop-d.d-index c.args.bytes.now c.loop-d-test.false).0 ∙ c.loop-d.invariant.1

pub returns-after-loop-d-clause-count : goal.returns-after-loop-d-clause-count
returns-after-loop-d-clause-count c =
    omega (arith, (no_more c.loop-d.n c.loop-d.d-index c.args.bytes.now c.loop-d-test.false).1, c.loop-d.invariant.3)

pub returns-then-not-is_ascii_digit-clause-value : goal.returns-then-not-is_ascii_digit-clause-value
returns-then-not-is_ascii_digit-clause-value c =
    let other = no_digit c.loop-d.n c.loop-d.d-index c.args.bytes.now c.loop-d-test.true (sym c.if-not-is_ascii_digit.ensures.value) in
    sym other.0 ∙ c.loop-d.invariant.1

pub returns-then-not-is_ascii_digit-clause-count : goal.returns-then-not-is_ascii_digit-clause-count
returns-then-not-is_ascii_digit-clause-count c =
    let other = no_digit c.loop-d.n c.loop-d.d-index c.args.bytes.now c.loop-d-test.true (sym c.if-not-is_ascii_digit.ensures.value) in
    omega (arith, other.1, c.loop-d.invariant.3)
