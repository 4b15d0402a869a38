-- The words that are left have it where those at the start have.
use Rattle.dom_selectors.proofs.Cited.{◌≡◌, [], length, list_any, text_eq, words_from}
use Rattle.dom_selectors.proofs.values.has_word.Given as goal

abbrev pub invariant-loop-rest : goal.invariant-loop-rest
invariant-loop-rest l = list_any (text_eq l.word) (words_from [] l.rest) ≡ list_any (text_eq l.word) (words_from [] l.text)

abbrev pub decreases-loop-rest : goal.decreases-loop-rest
decreases-loop-rest l = length l.rest
