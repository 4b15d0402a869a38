use Rattle.dom_live.proofs.OneStep.{page-step_agrees, group-step_agrees}
use Rattle.dom_live.proofs.one_small_step.Goals as goal

pub returns : goal.returns
returns c = record { page = page-step_agrees; group = group-step_agrees }
