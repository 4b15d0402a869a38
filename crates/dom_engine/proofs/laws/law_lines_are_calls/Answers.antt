use Rattle.dom_engine.proofs.CallLaws.{line-is_its_command, line-is_its_call}
use Rattle.dom_engine.proofs.CallRuns.{lines-are_their_calls}
use Rattle.dom_engine.proofs.laws.law_lines_are_calls.Goals as goal

pub returns : goal.returns
returns c = record {
  command = line-is_its_command;
  call = line-is_its_call c.law_text.ensures;
  session = lines-are_their_calls c.law_text.ensures;
}
