-- The number that the bytes behind the letter say.
use Rattle.dom_base.proofs.Std.{arith}
use Rattle.dom_words.proofs.Fronts.{read_behind}
use Rattle.dom_words.proofs.numbers.lettered_at.Goals as goal

pub returns-in-32 : goal.returns-in-32
returns-in-32 c =
    read_behind c.args.bytes.now c.number_at.result (c.requires.low, c.requires.high)
    (c.in-32.len_at_least, omega arith, c.if-first-letter.true) c.number_at.ensures.number c.number_at.ensures.rest
