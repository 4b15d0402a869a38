use Rattle.dom_isolation.proofs.GroupRuns.{assigned-agree, signals-agree, step-agrees}
use Rattle.dom_isolation.proofs.groups.one_step.Goals as goal

pub returns : goal.returns
returns c = record { assigned = assigned-agree; signals = signals-agree; step = step-agrees }
