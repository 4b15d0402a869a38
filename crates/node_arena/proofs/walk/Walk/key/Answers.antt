use Rattle.std.proofs.Common.{ap, ◌∙◌, arith}
use Rattle.node_arena.proofs.walk.Walk.key.Goals as goal

pub returns : goal.returns
returns g c = record {
  value = c.key.ensures ∙ ap (λ s. s.key) c.self.view_is;
  node = rw (← c.self.view_is) (omega (arith, c.self.invariant.linked.paired, c.self.invariant.cell));
}
