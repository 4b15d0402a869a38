-- What the reply says is given, or why there is none.
use Rattle.dom_calls.proofs.Giving.{answered-kept, gives-fault, gives-found, keeps}
use Rattle.dom_calls.proofs.held.Held.ask_text.Goals as goal

pub returns-in-Ok : goal.returns-in-Ok
returns-in-Ok c =
    let mid = c.call.new.self in
    let lent = c.lend_text-lent.new.self in
    let kept = keeps mid lent c.lend_text-lent.ensures.held in
    gives-found lent c.or_fail.new.self c.call.result c.in-Ok.reply c.or_fail.result
    (λ asked h. answered-kept c.args.place asked c.args.self.now mid lent kept c.call.result (c.call.ensures.ok asked h))
    c.lend_text-lent.result c.in-Ok.is c.lend_text-lent.ensures.shows c.or_fail.ensures.some c.or_fail.ensures.none

pub returns-in-Err : goal.returns-in-Err
returns-in-Err c = gives-fault c.in-Err.fault c.call.result c.in-Err.is c.call.ensures.refused c.call.ensures.memory
