-- What is read so far goes on to the whole number, and has a digit more than were read.
use Rattle.dom_base.proofs.Std.{◌≡◌, ◌<◌, ◌+◌, ◌^◌, drop, prefix_len, is_ascii_digit}
use Rattle.dom_words.proofs.Digits.{read_on}
use Rattle.dom_words.proofs.numbers.with_front.Given as goal

abbrev pub invariant-loop-d : goal.invariant-loop-d
invariant-loop-d l =
    (l.count ≡ l.d-index) × (read_on l.n (drop l.d-index l.bytes) ≡ read_on l.number l.bytes) × (l.n < 10 ^ (l.d-index + 1)) ×
    (l.count + prefix_len is_ascii_digit (drop l.d-index l.bytes) ≡ prefix_len is_ascii_digit l.bytes)
