-- A word that stands among words has no white space.
use Rattle.dom_base.proofs.Std.{rules}
use Rattle.dom_selectors.proofs.ValueLaws.{is_word}
use Rattle.dom_selectors.proofs.values.is_among_words.Goals as goal

pub returns-then-not-is_empty : goal.returns-then-not-is_empty
returns-then-not-is_empty c = let word = is_word c.args.word.now c.args.text.now in search (rules, word)
