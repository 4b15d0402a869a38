use Rattle.node_arena.specs.Store.{payload_of}
use Rattle.node_arena.proofs.StoreReads.{value_kept, read-payload}
use Rattle.node_arena.proofs.store.Store.payload.Goals as goal

pub get-requires : goal.get-requires
get-requires g c =
    value_kept c.self.invariant.1 payload_of c.key.inside.index (rw (← c.self.view_is, ← c.key.view_is) at c.requires) c.index.ensures

pub returns : goal.returns
returns g c =
    let within = rw (← c.self.view_is, ← c.key.view_is) at c.requires in
    rw (← c.self.view_is, ← c.key.view_is) (read-payload c.self.invariant.1 c.key.inside.index within c.index.ensures c.get.ensures)
