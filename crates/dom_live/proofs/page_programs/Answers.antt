use Rattle.dom_model.specs.Trace.{is_page}
use Rattle.dom_live.proofs.PageScripts.{page-machine}
use Rattle.dom_live.proofs.ProgramRuns.{same-by_program, same-to_end_by_program, plays-follow}
use Rattle.dom_live.proofs.page_programs.Goals as goal

pub returns : goal.returns
returns c = record {
  same = λ read cue. same-by_program (page-machine read) cue;
  to_end = λ read cue. same-to_end_by_program (page-machine read) cue;
  plays = λ read cue next. plays-follow read cue is_page next;
}
