use Rattle.dom_live.proofs.Scripts.{lines-agree, run-agrees, same-output}
use Rattle.dom_live.proofs.GroupScripts.{group-machine}
use Rattle.dom_live.proofs.group_scripts.Goals as goal

pub returns : goal.returns
returns c = record {
  line = λ read g closed. (group-machine read g closed).line;
  lines = λ read g closed. lines-agree (group-machine read g closed);
  run = λ read g closed. run-agrees (group-machine read g closed);
  same = λ read g closed. same-output (group-machine read g closed);
}
