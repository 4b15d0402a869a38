-- What the reply says is given, or why there is none.
use Rattle.dom_calls.proofs.Giving.{gives-fault, gives-found}
use Rattle.dom_calls.proofs.held.Held.ask_nothing.Goals as goal

pub returns-in-Ok : goal.returns-in-Ok
returns-in-Ok c =
    gives-found c.call.new.self c.or_fail.new.self c.call.result c.in-Ok.reply c.or_fail.result c.call.ensures.ok c.nothing_in-found.result c.in-Ok.is
    (c.nothing_in-found.ensures c.call.new.self.answer.arrays) c.or_fail.ensures.some c.or_fail.ensures.none

pub returns-in-Err : goal.returns-in-Err
returns-in-Err c = gives-fault c.in-Err.fault c.call.result c.in-Err.is c.call.ensures.refused c.call.ensures.memory
