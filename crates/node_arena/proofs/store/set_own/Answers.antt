use Rattle.std.proofs.Common.{ap}
use Rattle.node_arena.specs.Store.{with_own_links}
use Rattle.node_arena.proofs.Linking.{set-turned}
use Rattle.node_arena.proofs.store.set_own.Goals as goal

pub returns : goal.returns
returns g c =
    rw (c.set_pointer-2.ensures, c.set_pointer.ensures, c.set_parent.ensures) (ap (λ ns. record c.args.pool.now { cells = ns })
    (set-turned c.args.pool.now.cells c.args.at.ptr (λ v. with_own_links v c.args.parent c.args.next c.args.link c.args.back) c.get_mut-cell.ensures.value))
