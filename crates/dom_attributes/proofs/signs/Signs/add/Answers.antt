use Rattle.dom_attributes.proofs.SignLaws.{cover-with}
use Rattle.dom_attributes.proofs.signs.Signs.add.Goals as goal

pub returns : goal.returns
returns c = cover-with c.gain.ensures
