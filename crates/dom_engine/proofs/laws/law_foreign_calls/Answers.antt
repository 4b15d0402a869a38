use Rattle.dom_engine.proofs.ForeignLines.{foreign-command}
use Rattle.dom_engine.proofs.CallLaws.{foreign-call}
use Rattle.dom_engine.proofs.laws.law_foreign_calls.Goals as goal

pub returns : goal.returns
returns c = record { command = foreign-command; call = foreign-call }
