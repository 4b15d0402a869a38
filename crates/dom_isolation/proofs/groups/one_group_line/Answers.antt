use Rattle.dom_isolation.proofs.GroupRuns.{ending-agrees, line-agrees, other_line-agrees, finish-agrees}
use Rattle.dom_isolation.proofs.groups.one_group_line.Goals as goal

pub returns : goal.returns
returns c = record { ending = ending-agrees; own = line-agrees; other = other_line-agrees; finish = finish-agrees }
