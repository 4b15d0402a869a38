use Rattle.dom_live.proofs.LineRuns.{kept-out_is_busy, lines-translate, runs-translate}
use Rattle.dom_live.proofs.Scripts.{same-output}
use Rattle.dom_live.proofs.GroupScripts.{group-machine}
use Rattle.dom_live.proofs.LineGuarantees.{same-lines, same-page_lines}
use Rattle.dom_live.proofs.line_scripts.Goals as goal

pub returns : goal.returns
returns c = record {
  kept_out = kept-out_is_busy;
  lines = lines-translate;
  run = runs-translate;
  page = same-page_lines;
  group = λ read g closed. same-lines read g (same-output (group-machine read g closed));
}
