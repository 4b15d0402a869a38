use Rattle.std.proofs.Common.{ap}
use Rattle.node_arena.proofs.cell_at.CellAt.key.Goals as goal

pub returns : goal.returns
returns g c = ap (λ s. s.key) c.self.view_is
