-- The bytes behind the space are the word and what is behind it.
use Rattle.dom_base.proofs.Std.{◌≡◌, ◌<◌, true, false, sym, ap, ◌∙◌, arith, length, drop, drop_at, bytes_eq, prefix_len, is_ascii_graphic, None, refl}
use Rattle.dom_text.specs.Definitions.{next_word}
use Rattle.dom_text.proofs.NumberLaws.{eq-bytes_eq}
use Rattle.dom_words.proofs.Fronts.{word_in_front, read_in_front, next-read, not_next-read}
use Rattle.dom_words.proofs.words.behind_word.Goals as goal

pub returns-clause-some : goal.returns-clause-some
returns-clause-some c =
    let word = c.args.word.now in
    rw (← c.in_ok-text.ensures, c.in_ok-rest.ensures.some)
    (word_in_front word c.in_ok-rest.rest.now c.requires.graphic c.requires.begins c.if-begins_graphic.ensures)

pub returns-clause-next : goal.returns-clause-next
returns-clause-next c = next-read c.args.word.now c.args.bytes.now (returns-clause-some c)

pub returns-in_err-text-clause-none : goal.returns-in_err-text-clause-none
returns-in_err-text-clause-none c same =
    not_next-read c.args.word.now c.args.bytes.now (λ rest read. let none : None ≡ next_word c.args.bytes.now = rw (← c.in_err-text.ensures) refl in cc)

pub returns-in_err-rest-clause-none : goal.returns-in_err-rest-clause-none
returns-in_err-rest-clause-none c same = not_next-read c.args.word.now c.args.bytes.now (λ rest read.
    let word = c.args.word.now in
    let text = c.in_ok-text.text.now in
    let front = (read_in_front word text rest (rw (← c.in_ok-text.ensures) at read)).0 in
    let another : true ≡ false = sym (eq-bytes_eq word) ∙ ap (bytes_eq word) (sym front) ∙ c.in_err-rest.ensures.none in cc)

pub returns-then-begins_graphic-clause-none : goal.returns-then-begins_graphic-clause-none
returns-then-begins_graphic-clause-none c same = not_next-read c.args.word.now c.args.bytes.now (λ rest read.
    let word = c.args.word.now in
    let text = c.in_ok-text.text.now in
    let stops = (read_in_front word text rest (rw (← c.in_ok-text.ensures) at read)).1 in
    let behind = ap (drop (length word)) c.in_ok-rest.ensures.some ∙ drop_at word c.in_ok-rest.rest.now (length word) refl in
    let more : 0 < prefix_len is_ascii_graphic c.in_ok-rest.rest.now = c.if-begins_graphic.ensures in
    let none : 0 < 0 = rw (sym behind, stops) at more in omega (arith, none))
