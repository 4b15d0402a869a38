use Rattle.dom_live.proofs.RunEnds.{runs-end, input-ends}
use Rattle.dom_live.proofs.PlainRuns.{nothing-waits}
use Rattle.dom_live.proofs.runs_end.Goals as goal

pub returns : goal.returns
returns c = record { run = runs-end; input = input-ends; plain = nothing-waits }
