use Rattle.dom_base.proofs.Std.{refl, digits}
use Rattle.dom_text.specs.Decode.{keyword_of}
use Rattle.dom_examples.proofs.cursors.Goals as goal

pub returns : goal.returns
unfolding keyword_of digits
returns c = search refl
