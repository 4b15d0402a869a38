use Rattle.std.proofs.Common.{ap}
use Rattle.node_arena.specs.Store.{with_first}
use Rattle.node_arena.proofs.Linking.{set-turned}
use Rattle.node_arena.proofs.store.set_first.Goals as goal

pub returns : goal.returns
returns g c =
    rw c.set_first.ensures (ap (λ ns. record c.args.pool.now { cells = ns })
    (set-turned c.args.pool.now.cells c.args.at.ptr (λ v. with_first v c.args.to c.args.leads) c.get_mut-cell.ensures.value))
