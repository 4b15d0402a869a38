use Rattle.node_arena.proofs.walk.Walk.payload.Goals as goal

pub returns : goal.returns
returns g c = rw (← c.self.view_is) c.payload.ensures
