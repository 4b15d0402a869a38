-- The word is sought among those with `re` in front, and then among the others.
use Rattle.dom_base.proofs.Std.{◌≡◌, List, ℕ, ◌∙◌, ap, sym, bytes_eq, find-append, option_map, option_or}
use Rattle.dom_text.specs.Definitions.{keyword_word, named}
use Rattle.dom_reader.specs.Keywords.{keyword_with, re_words, range_words}
use Rattle.dom_reader.specs.Views.{keyword_view}
use Rattle.dom_reader.proofs.keywords.with_r.Goals as goal

apart : (word : List ℕ) → option_or (named keyword_word re_words word) (named keyword_word range_words word) ≡ keyword_with 114 word
apart word = sym (find-append (λ k. bytes_eq (keyword_word k) word) re_words range_words)

pub returns-in-Some : goal.returns-in-Some
returns-in-Some c =
    ap (λ o. option_or o (named keyword_word range_words c.args.word.now))
    (ap (option_map keyword_view) (sym c.in-Some.is) ∙ c.with_re.ensures) ∙ apart c.args.word.now

pub returns-in-None : goal.returns-in-None
returns-in-None c =
    c.with_range.ensures ∙ ap (λ o. option_or o (named keyword_word range_words c.args.word.now))
    (ap (option_map keyword_view) (sym c.in-None.is) ∙ c.with_re.ensures) ∙ apart c.args.word.now
