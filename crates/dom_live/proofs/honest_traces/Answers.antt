use Rattle.dom_model.specs.Trace.{is_page}
use Rattle.dom_live.proofs.HonestTraces.{tells-own_lines, tells-outward_events, counts-own_steps}
use Rattle.dom_live.proofs.QuietTraces.{quiet-group, alone-group}
use Rattle.dom_live.proofs.StopTraces.{tells-made_stops}
use Rattle.dom_live.proofs.honest_traces.Goals as goal

pub returns : goal.returns
returns c = record {
  lines = λ read g. tells-own_lines read g;
  outward = λ read g. tells-outward_events read g;
  steps = λ read g. counts-own_steps read g;
  quiet = λ read. quiet-group is_page read;
  quiet_group = λ read g. quiet-group g read;
  alone = alone-group;
  stops = λ read g. tells-made_stops g read;
}
