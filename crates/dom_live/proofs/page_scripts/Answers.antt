use Rattle.dom_live.proofs.KeptLines.{lines-keep}
use Rattle.dom_live.proofs.Scripts.{lines-agree, run-agrees}
use Rattle.dom_live.proofs.PageScripts.{page-machine}
use Rattle.dom_live.proofs.page_scripts.Goals as goal

pub returns : goal.returns
returns c = record {
  kept = lines-keep;
  line = λ read. (page-machine read).line;
  lines = λ read. lines-agree (page-machine read);
  run = λ read. run-agrees (page-machine read);
}
