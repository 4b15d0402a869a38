use Rattle.node_arena.specs.Cells.{lists_of}
use Rattle.node_arena.proofs.Arena.remember_siblings.Goals as goal

pub extend-requires-clause-first : goal.extend-requires-clause-first
extend-requires-clause-first g c = c.turn.ensures.recent (lists_of c.self.inside.store.links) c.self.invariant.recent c.self.invariant.other
