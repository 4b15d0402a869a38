use Rattle.dom_slots.proofs.Ended.{step-ends}
use Rattle.dom_slots.proofs.laws.law_steps_end.Goals as goal

pub returns : goal.returns
returns c old new s step change same names nodes slots begun moved = step-ends same names nodes slots begun moved
