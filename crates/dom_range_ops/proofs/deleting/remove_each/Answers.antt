use Rattle.dom_range_ops.proofs.Cited.{remove_plan, observed, name_in, owner_in, empties_on}
use Rattle.dom_range_ops.proofs.InsertedPlans.{state-is}
use Rattle.dom_range_ops.proofs.deleting.remove_each.Goals as goal

pub loop-key-preserved : goal.loop-key-preserved
loop-key-preserved c =
    let e = c.loop-key.doc in
    let k = c.key-item.result in
    empties_on observed c.args.first c.args.keys.now c.args.doc.now c.loop-key.key-index {k = k} {e = e} c.laws-in-loop-key.ensures.once
    record { below = c.loop-key-test.true; item = c.key-item.is } c.requires.nodes c.loop-key.invariant
    (state-is e c.remove.new.self (owner_in e k) (remove_plan observed (name_in e k)) c.in_ok-remove.ensures.names c.in_ok-remove.ensures.world)
