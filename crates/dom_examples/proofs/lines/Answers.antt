use Rattle.dom_base.proofs.Std.{refl, digits}
use Rattle.dom_text.specs.Decode.{keyword_of}
use Rattle.dom_examples.proofs.lines.Goals as goal

pub returns : goal.returns
unfolding keyword_of digits
returns c = record {
  ownerless = (refl, (refl, (refl, (refl, (refl, (refl, tt))))));
  malformed = (refl, (refl, (refl, (refl, (refl, (refl, (refl, (refl, (refl, (refl, (refl, (refl, tt))))))))))));
  unknown = (refl, tt);
  longest = (refl, tt);
  too_long = (refl, tt);
  too_long_letters = (refl, tt);
  too_long_words = (refl, tt);
}
