use Rattle.std.proofs.Common.{◌<◌, length, refl, arith}
use Rattle.std.proofs.lemmas.List.{length-map}
use Rattle.node_arena.specs.Store.{places_of, links_of}
use Rattle.node_arena.proofs.StoreReads.{value_kept, seated}
use Rattle.node_arena.proofs.store.Store.at.Goals as goal

pub get-cell-requires : goal.get-cell-requires
get-cell-requires g c =
    value_kept c.self.invariant.1 (links_of (places_of c.self.inside.pool.cells)) c.key.inside.index
    (rw (← c.self.view_is, ← c.key.view_is) at c.requires) c.index.ensures

pub invariant_of-result : goal.invariant_of-result
invariant_of-result g c =
    let cells = c.self.inside.pool.cells in
    let asked = rw (← c.self.view_is, ← c.key.view_is) at c.requires in
    let within : c.key.inside.index < length cells = omega (arith, length-map cells (links_of (places_of cells))) in
    rw c.as_slice-list.ensures.value (seated c.self.invariant.1 c.key.inside.index within c.index.ensures c.get-cell.ensures).0

pub returns : goal.returns
returns g c =
    let cells = c.self.inside.pool.cells in
    let asked = rw (← c.self.view_is, ← c.key.view_is) at c.requires in
    let within : c.key.inside.index < length cells = omega (arith, length-map cells (links_of (places_of cells))) in
    rw (← c.self.view_is, ← c.key.view_is, (seated c.self.invariant.1 c.key.inside.index within c.index.ensures c.get-cell.ensures).1) refl
