use Rattle.dom_callers.proofs.Hosting.{widgets-attached}
use Rattle.dom_callers.proofs.widgets.press.Goals as goal

pub returns : goal.returns
returns c =
    let f = c.args.forest.now in
    let hosts = c.args.slots.now.hosts in
    let hosted = c.law_hosts_nest.ensures.attached f hosts 1 (widgets-attached f hosts c.law_nodes_stand_once.ensures.order c.requires.widgets) in
    let d = c.in_ok-outcome.ensures.keys in
    record { shown = d.shown; views = d.hosted 1 hosted; answer_is = d.answer }
