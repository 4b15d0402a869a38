-- What the reply says is given, or why there is none.
use Rattle.dom_calls.proofs.Giving.{answered-kept, gives-fault, gives-found}
use Rattle.dom_calls.proofs.held.Held.ask_component.Goals as goal

pub returns-in-Ok : goal.returns-in-Ok
returns-in-Ok c =
    gives-found c.add_owner-added.new.self c.or_fail.new.self c.call.result c.in-Ok.reply c.or_fail.result
    (λ asked h. answered-kept c.args.place asked c.args.self.now c.call.new.self c.add_owner-added.new.self c.add_owner-added.ensures.held c.call.result
    (c.call.ensures.ok asked h))
    c.add_owner-added.result c.in-Ok.is (c.add_owner-added.ensures.shows c.add_owner-added.new.self.answer.arrays) c.or_fail.ensures.some c.or_fail.ensures.none

pub returns-in-Err : goal.returns-in-Err
returns-in-Err c = gives-fault c.in-Err.fault c.call.result c.in-Err.is c.call.ensures.refused c.call.ensures.memory
