use Rattle.dom_engine.proofs.CalmCalls.{never-busy}
use Rattle.dom_engine.proofs.laws.law_never_busy.Goals as goal

pub returns : goal.returns
returns c = never-busy
