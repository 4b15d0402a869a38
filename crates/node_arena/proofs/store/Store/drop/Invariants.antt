use Rattle.std.proofs.Common.{◌≡◌, map}
use Rattle.node_arena.specs.Store.{places_of}
use Rattle.node_arena.proofs.store.Store.drop.Given as goal

abbrev pub invariant-loop-place : goal.invariant-loop-place
invariant-loop-place g l = (l.pool.heap ≡ l.bump) × (map (λ p. p.ptr) l.place-iterator.rest.items ≡ places_of l.pool.cells)
