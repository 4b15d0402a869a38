use Rattle.dom_engine.proofs.CallReplies.{command-ends_in_reply}
use Rattle.dom_engine.proofs.CallLaws.{call-ends_in_reply}
use Rattle.dom_engine.proofs.laws.law_last_is_reply.Goals as goal

pub returns : goal.returns
returns c = record { command = command-ends_in_reply; call = call-ends_in_reply }
