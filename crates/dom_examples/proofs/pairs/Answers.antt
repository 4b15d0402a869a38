use Rattle.dom_base.proofs.Std.{refl, digits}
use Rattle.dom_examples.proofs.pairs.Goals as goal

pub returns : goal.returns
unfolding digits
returns c = record {
  page = refl;
  component = refl;
}
