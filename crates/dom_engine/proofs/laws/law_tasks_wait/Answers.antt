use Rattle.dom_engine.proofs.FreeCalls.{tasks-wait}
use Rattle.dom_engine.proofs.laws.law_tasks_wait.Goals as goal

pub returns : goal.returns
returns c = tasks-wait
