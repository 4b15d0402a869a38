use Rattle.std.proofs.Common.{Some, ap, ◌∙◌}
use Rattle.node_arena.proofs.StoreReads.{payload_at}
use Rattle.node_arena.proofs.cell_at.CellAt.payload.Goals as goal

pub returns : goal.returns
returns g c =
    let n = c.self.invariant.as_placed in
    rw (← c.self.view_is) (payload_at c.self.inside.pool.now.cells c.self.inside.cell.now.key n c.self.invariant.is
    ∙ ap (λ d. Some d.payload) c.self.invariant.value)
