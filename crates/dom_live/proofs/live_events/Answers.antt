use Rattle.dom_base.proofs.Std.{refl, digits}
use Rattle.dom_model.proofs.Model.{max_depth}
use Rattle.dom_text.specs.Decode.{keyword_of}
use Rattle.dom_live.proofs.live_events.Goals as goal

pub returns : goal.returns
unfolding keyword_of digits max_depth
returns c = search refl
