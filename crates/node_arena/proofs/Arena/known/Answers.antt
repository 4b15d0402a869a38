use Rattle.node_arena.specs.Cells.{lists_of}
use Rattle.node_arena.proofs.Arena.known.Goals as goal

pub returns-in-Some : goal.returns-in-Some
returns-in-Some g c k e = rw (← c.self.view_is) (c.in-Some.ensures k e (lists_of c.self.inside.store.links) c.self.invariant.recent)

pub returns-in-None : goal.returns-in-None
returns-in-None g c k e = rw (← c.self.view_is) (c.of-in-None.ensures k e (lists_of c.self.inside.store.links) c.self.invariant.other)
