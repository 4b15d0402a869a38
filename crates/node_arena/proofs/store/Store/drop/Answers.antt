use Rattle.std.proofs.Common.{◌≡◌, [], map, sym, ap, ◌∙◌}
use Rattle.std.proofs.lemmas.List.{nil_from_length}
use Rattle.node_arena.specs.Store.{places_of}
use Rattle.node_arena.proofs.Numbers.{first_placed, none_placed}
use Rattle.node_arena.proofs.store.Store.drop.Goals as goal

pub loop-place-init : goal.loop-place-init
loop-place-init g c = (c.self.invariant.0, ap (map (λ p. p.ptr)) c.into_iter-place-iterator.ensures.into_iter_gives.0 ∙ c.self.invariant.1.places)

pub take-requires : goal.take-requires
take-requires g c =
    (first_placed c.loop-place.pool.cells c.in-Some.place.ptr (map (λ p. p.ptr) c.next.new.self.rest.items)
    (ap (map (λ p. p.ptr)) (sym c.in-Some.ensures.steps.0) ∙ c.loop-place.invariant.1)).0

pub loop-place-preserved : goal.loop-place-preserved
loop-place-preserved g c = (
  c.take.ensures.same_heap ∙ c.loop-place.invariant.0,
  (first_placed c.loop-place.pool.cells c.in-Some.place.ptr (map (λ p. p.ptr) c.next.new.self.rest.items)
      (ap (map (λ p. p.ptr)) (sym c.in-Some.ensures.steps.0) ∙ c.loop-place.invariant.1)).1
      ∙ ap places_of (sym c.take.ensures.cells),
)

pub into_raw-requires : goal.into_raw-requires
into_raw-requires g c = c.take.ensures.heap ∙ c.loop-place.invariant.0

pub end-requires : goal.end-requires
end-requires g c =
    let rest = c.loop-place.place-iterator.rest in
    let empty : rest.items ≡ [] = nil_from_length rest.items (sym rest.ok.0 ∙ c.in-None.ensures.steps.0) in
    none_placed c.loop-place.pool.cells (ap (map (λ p. p.ptr)) (sym empty) ∙ c.loop-place.invariant.1)
