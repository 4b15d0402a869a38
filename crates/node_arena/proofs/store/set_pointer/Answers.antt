use Rattle.std.proofs.Common.{ap}
use Rattle.node_arena.specs.Store.{with_pointer}
use Rattle.node_arena.proofs.Linking.{set-turned}
use Rattle.node_arena.proofs.store.set_pointer.Goals as goal

pub returns : goal.returns
returns g c =
    rw c.set_pointer.ensures (ap (λ ns. record c.args.pool.now { cells = ns })
    (set-turned c.args.pool.now.cells c.args.at.ptr (λ v. with_pointer v c.args.link c.args.to c.args.leads) c.get_mut-cell.ensures.value))
