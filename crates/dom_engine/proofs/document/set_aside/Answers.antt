use Rattle.dom_base.proofs.Std.{on_ok_weaker}
use Rattle.dom_engine.proofs.DocumentCalls.{ready-aside}
use Rattle.dom_engine.proofs.document.set_aside.Goals as goal

pub returns-clause-ready : goal.returns-clause-ready
returns-clause-ready c =
    let taken = c.take_tasks-tasks in
    on_ok_weaker c.queue_all.result (ready-aside c.args.machine.now taken.new.self c.args.waiting.now taken.result c.queue_all.new.waiting c.requires
    taken.ensures.sound taken.ensures.world taken.ensures.there) c.queue_all.ensures
