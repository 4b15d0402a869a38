use Rattle.dom_isolation.proofs.Touches.{interference-is_enough}
use Rattle.dom_isolation.proofs.QuietVisits.{interference-is_on_purpose}
use Rattle.dom_isolation.proofs.FullTraces.{interference-is_small, full_trace-is_trace, nothing-touches}
use Rattle.dom_isolation.proofs.FirstVisits.{first_visit-is_own, interference-leaves_first}
use Rattle.dom_isolation.proofs.LastVisits.{last_visit-is_own, interference-takes_last}
use Rattle.dom_isolation.proofs.Lines.{endings-are_not_told}
use Rattle.dom_isolation.proofs.one_interference.Goals as goal

pub returns : goal.returns
returns c = record {
  enough = interference-is_enough;
  purpose = interference-is_on_purpose;
  small = interference-is_small;
  first_visit = first_visit-is_own;
  first = interference-leaves_first;
  last_visit = last_visit-is_own;
  last = interference-takes_last;
  endings = endings-are_not_told;
  trace = λ read. full_trace-is_trace read;
  nothing = λ read. nothing-touches read;
}
