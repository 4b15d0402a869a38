use Rattle.std.proofs.Common.{◌≡◌, ◌<◌, ◌++◌, ◌∷◌, [], true, cond, length, sym, ap, ◌∙◌, arith}
use Rattle.std.specs.Result.{is_ok}
use Rattle.std.proofs.lemmas.List.{length-map}
use Rattle.node_arena.specs.Owned.{placed}
use Rattle.node_arena.proofs.StoreLemmas.{alone, IsFree, IsWired-push, seen-push}
use Rattle.node_arena.proofs.store.Store.make.Given.{Over}
use Rattle.node_arena.proofs.store.Store.make.Goals.{After-put-place}
use Rattle.node_arena.proofs.store.Store.make.Goals as goal

-- the cells with the new one
put : (g : Over) (c : After-put-place g) → c.put-place.new.self.cells ≡ c.self.inside.pool.cells ++
    placed c.put-place.result.ptr (alone c.args.payload (length c.self.inside.pool.cells) c.nowhere-nowhere.result) ∷ []
put g c =
    let list = c.self.inside.list.items in
    let cells = c.self.inside.pool.cells in
    let null = c.nowhere-nowhere.result in
    let number : c.len-index.result ≡ length cells =
    c.len-index.ensures ∙ c.self.inside.list.ok.0 ∙ sym (length-map list (λ p. p.ptr)) ∙ ap length c.self.invariant.1.places ∙ length-map cells (λ n. n.at) in
    let value : c.of-2.result.value ≡ alone c.args.payload (length cells) null =
    c.of-2.ensures.value ∙ c.of.ensures.value ∙ c.in_ok-kept.ensures.ok ∙
    (λ i. record (alone c.args.payload (number i) null) { marks = c.none.ensures i }) in
    c.put-place.ensures.cells ∙ ap (λ v. cells ++ placed c.put-place.result.ptr v ∷ []) value

pub put-place-requires-clause-heap : goal.put-place-requires-clause-heap
put-place-requires-clause-heap g c =
    c.of-2.ensures.heap ∙ ap (λ r. r.now) (c.of.ensures.allocator ∙ c.in_ok-kept.ensures.allocator) ∙ sym c.self.invariant.0

pub invariant_of-self-2 : goal.invariant_of-self-2
invariant_of-self-2 g c =
    let list = c.self.inside.list.items in
    let cells = c.self.inside.pool.cells in
    let place = c.put-place.result in
    let room = c.in_ok-reserve.ensures.ok in
    let free : c.reserve.new.self.len < c.reserve.new.self.cap = omega arith in
    let pushed : is_ok c.push.result ≡ true = c.push.ensures.succeeds free in
    let listed : c.push.new.self.items ≡ list ++ place ∷ [] =
    c.push.ensures.items ∙ ap (λ b. cond b (c.reserve.new.self.items ++ place ∷ []) c.reserve.new.self.items) pushed ∙
    ap (λ ps. ps ++ place ∷ []) c.reserve.ensures.items in
    let at_place : IsFree cells place =
    record { absent = c.put-place.ensures.fresh; within = c.put-place.ensures.within } in (
      c.put-place.ensures.same_heap ∙ c.self.invariant.0,
      rw (listed, put g (goal.at.invariant_of-self-2 g c).After-put-place)
          (IsWired-push c.nowhere-nowhere.result c.args.payload c.self.invariant.1 at_place),
    )

pub returns-clause-ok : goal.returns-clause-ok
returns-clause-ok g c = rw (put g (goal.at.returns-clause-ok g c).After-put-place, ← c.self.view_is)
    (seen-push c.put-place.result c.nowhere-nowhere.result c.args.payload c.self.invariant.1)
