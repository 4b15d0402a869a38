-- Where the digits in front are not all of the bytes, a byte is no digit.
use Rattle.dom_base.proofs.Std.{◌≡◌, ℕ, true, List, subst, refl, arith, take_all, list_all_at, prefix_len_stops, list_all, prefix_len, is_ascii_digit}
use Rattle.dom_words.proofs.Texts.{all_of_run}
use Rattle.dom_words.proofs.numbers.with_digits.Goals as goal

pub returns-then-count-digits : goal.returns-then-count-digits
returns-then-count-digits c =
    let digits = c.args.digits.now in
    let n = c.with_front-number.result.1 in
    let other = prefix_len_stops is_ascii_digit digits 0 (omega (arith, c.if-count-digits.true, c.with_front-number.ensures.count)) in
    rw (list_all_at is_ascii_digit digits _ 0 (omega (arith, c.if-count-digits.true, c.with_front-number.ensures.count)) other) refl

pub returns : goal.returns
returns c =
    let digits = c.args.digits.now in
    let whole = take_all (prefix_len is_ascii_digit digits) digits (omega (arith, c.if-count-digits.false, c.with_front-number.ensures.count)) in
    let all = subst (λ (ds : List ℕ). list_all is_ascii_digit ds ≡ true) whole (all_of_run is_ascii_digit digits) in
    rw (all, c.with_front-number.ensures.value, whole) refl
