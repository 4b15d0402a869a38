use Rattle.std.proofs.Common.{ap}
use Rattle.node_arena.specs.declared.cell.Cell.{Cell}
use Rattle.node_arena.specs.LinkMarks.{without_own}
use Rattle.node_arena.proofs.Linking.{set-turned}
use Rattle.node_arena.proofs.store.clear_own.Goals as goal

pub returns : goal.returns
returns g c =
    rw c.clear_own.ensures (ap (λ ns. record c.args.pool.now { cells = ns })
    (set-turned c.args.pool.now.cells c.args.at.ptr (λ (v : Cell g.row.T.Denot). record v { marks = without_own v.marks }) c.get_mut-cell.ensures.value))
