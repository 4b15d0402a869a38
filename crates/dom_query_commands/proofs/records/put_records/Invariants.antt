use Rattle.dom_query_commands.proofs.Cited.{take, record_lines}
use Rattle.dom_query_commands.proofs.records.put_records.Given as goal

abbrev pub invariant-loop-told : goal.invariant-loop-told
invariant-loop-told g l = g.A.Answers.adds l.initial.out (record_lines l.forest.names l.owner l.observer (take l.told-index l.records)) l.out
