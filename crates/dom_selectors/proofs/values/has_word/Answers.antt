-- The first word, or those behind it.
use Rattle.dom_selectors.proofs.Cited.{sym, ◌∙◌}
use Rattle.dom_selectors.proofs.ValueLaws.{word_here, word_behind}
use Rattle.dom_selectors.proofs.values.has_word.Goals as goal

pub returns-then-begins_with_word : goal.returns-then-begins_with_word
returns-then-begins_with_word c =
    sym (word_here c.args.word.now c.loop-rest.rest.now (sym c.begins_with_word.ensures ∙ c.if-begins_with_word.true)) ∙ c.loop-rest.invariant

pub loop-rest-preserved : goal.loop-rest-preserved
loop-rest-preserved c =
    c.in-Some.ensures.value
    ∙ (word_behind c.args.word.now c.loop-rest.rest.now (sym c.begins_with_word.ensures ∙ c.if-begins_with_word.false) ∙ c.loop-rest.invariant)

pub returns-in-None : goal.returns-in-None
returns-in-None c =
    c.in-None.ensures.value
    ∙ (word_behind c.args.word.now c.loop-rest.rest.now (sym c.begins_with_word.ensures ∙ c.if-begins_with_word.false) ∙ c.loop-rest.invariant)
