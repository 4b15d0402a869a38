use Rattle.dom_base.proofs.Std.{arith, on_ok_weaker}
use Rattle.dom_tree.proofs.KeyLists.{lent-same, lent-room}
use Rattle.dom_tree.proofs.table.KeyTable.reserve.Goals as goal

pub returns-in-Some-clause-keys : goal.returns-in-Some-clause-keys
returns-in-Some-clause-keys c = lent-same c.args.self.now c.args.owner c.in-Component.is c.in-Some.place c.pair_mut.result.0.now
    c.pair_mut.result.1.now c.reserve-in-Some.new.self c.in-Some.ensures c.pair_mut.ensures.value c.pair_mut.ensures.unique c.reserve-in-Some.ensures.items

pub returns-in-Some-clause-room : goal.returns-in-Some-clause-room
returns-in-Some-clause-room c = on_ok_weaker c.reserve-in-Some.result (λ room. lent-room c.args.self.now c.args.owner c.in-Component.is
    c.in-Some.place c.pair_mut.result.0.now c.pair_mut.result.1.now c.reserve-in-Some.new.self c.in-Some.ensures c.pair_mut.ensures.value
    c.pair_mut.ensures.unique (omega arith)) c.reserve-in-Some.ensures.ok
