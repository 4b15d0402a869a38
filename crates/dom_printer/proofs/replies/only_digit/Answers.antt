-- A component of one number below ten has one digit.
use Rattle.dom_base.proofs.Std.{◌≡◌, ℕ, ◌+◌, ◌<◌, List, [], ◌∷◌, ◌++◌, length, get_or, ap, sym, ◌∙◌, arith, decimal_digit}
use Rattle.dom_text.specs.Words.{numbers_text}
use Rattle.dom_printer.proofs.replies.only_digit.Goals as goal

one_number : (ns : List ℕ) → length ns ≡ 1 → get_or ns 0 0 < 10 → numbers_text ns ≡ (48 + get_or ns 0 0) ∷ []
one_number [] h few = absurd (omega arith)
one_number (n ∷ []) h few = ap (λ (digits : List ℕ). digits ++ []) (decimal_digit n few)
one_number (n ∷ m ∷ ns) h few = absurd (omega arith)

pub returns-in-len1 : goal.returns-in-len1
returns-in-len1 c =
    let one = one_number c.numbers.result.now (omega arith) c.if-number-lt10.true in
    rw c.in-Component.is (ap (λ (digits : List ℕ). 99 ∷ digits) (ap numbers_text (sym c.numbers.ensures) ∙ one))
