use Rattle.dom_engine.proofs.LineActs.{lines-are_acts, scripts-are_acts, busy-lines}
use Rattle.dom_engine.proofs.laws.law_lines_are_acts.Goals as goal

pub returns : goal.returns
returns c = record { lines = lines-are_acts; script = scripts-are_acts; busy = busy-lines }
