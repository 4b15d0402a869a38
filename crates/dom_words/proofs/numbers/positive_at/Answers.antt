-- The digits in front, up to the end of the word.
use Rattle.dom_base.proofs.Std.{◌-◌, length, take, drop, Some, refl, sym, ap, ◌∙◌}
use Rattle.dom_words.proofs.Fronts.{Front, read_front}
use Rattle.dom_words.proofs.numbers.positive_at.Goals as goal

-- the bytes as they are taken apart
front : (c : goal.Else-begins_graphic) →
    Front c.args.bytes.now (take (length c.args.bytes.now - 1) (drop 1 c.args.bytes.now)) c.min.result c.with_front-number.result.1
front c = record {
  behind = refl;
  some = c.in-len1-up.len_at_least;
  first = sym c.leads.ensures ∙ c.if-leads.true;
  looked_at = c.min.ensures;
  digits = c.with_front-number.ensures.count;
  stops = c.if-begins_graphic.ensures;
}

pub returns-else-begins_graphic-clause-number : goal.returns-else-begins_graphic-clause-number
returns-else-begins_graphic-clause-number c = (read_front (front c)).0 ∙ ap Some (sym c.with_front-number.ensures.value)

pub returns-else-begins_graphic-clause-rest : goal.returns-else-begins_graphic-clause-rest
returns-else-begins_graphic-clause-rest c = (read_front (front c)).1
