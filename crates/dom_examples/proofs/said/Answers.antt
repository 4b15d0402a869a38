use Rattle.dom_base.proofs.Std.{refl}
use Rattle.dom_text.specs.Decode.{keyword_of}
use Rattle.dom_examples.proofs.said.Goals as goal

pub returns : goal.returns
unfolding keyword_of
returns c = record {
  commands = refl;
  optional_words = refl;
}
