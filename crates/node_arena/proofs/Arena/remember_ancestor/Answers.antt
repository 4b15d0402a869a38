use Rattle.std.proofs.Common.{refl}
use Rattle.node_arena.proofs.Arena.remember_ancestor.Goals as goal

pub invariant_of-self : goal.invariant_of-self
invariant_of-self g c = record {
  linked = c.self.invariant.linked;
  recent = c.self.invariant.recent;
  other = c.self.invariant.other;
  above = rw (← c.self.view_is) at (c.if-not-stands_above.ensures.0 refl);
  index = c.self.invariant.index;
}
