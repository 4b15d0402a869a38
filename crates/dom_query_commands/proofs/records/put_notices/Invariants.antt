use Rattle.dom_query_commands.proofs.Cited.{take, notice_lines}
use Rattle.dom_query_commands.proofs.records.put_notices.Given as goal

abbrev pub invariant-loop-notice : goal.invariant-loop-notice
invariant-loop-notice g l = g.A.Answers.adds l.initial.out (notice_lines l.forest.names l.owner (take l.notice-index l.notices)) l.out
