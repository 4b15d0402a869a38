use Rattle.dom_live.proofs.GroupScripts.{group-machine}
use Rattle.dom_live.proofs.ProgramRuns.{same-by_program, same-to_end_by_program}
use Rattle.dom_live.proofs.group_programs.Goals as goal

pub returns : goal.returns
returns c = record {
  same = λ read cue g closed. same-by_program (group-machine read g closed) cue;
  to_end = λ read cue g closed. same-to_end_by_program (group-machine read g closed) cue;
}
