use Rattle.dom_live.proofs.GoingOn.{steps-keep, page-steps_agree, group-steps_agree}
use Rattle.dom_live.proofs.going_on.Goals as goal

pub returns : goal.returns
returns c = record { kept = steps-keep; page = page-steps_agree; group = group-steps_agree }
