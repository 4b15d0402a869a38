use Rattle.dom_engine.proofs.ForeignLines.{foreign-step}
use Rattle.dom_engine.proofs.laws.law_foreign_lines.Goals as goal

pub returns : goal.returns
returns c = foreign-step
