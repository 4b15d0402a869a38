use Rattle.std.proofs.Common.{◌≡◌, ℕ, List, length, set, refl, sym, ◌∙◌, ap, arith}
use Rattle.std.specs.List.{concat, insert}
use Rattle.std.proofs.lemmas.Bool.{both_ways}
use Rattle.node_arena.specs.Nodes.{contains, place_in, put_before}
use Rattle.node_arena.specs.Blocks.{block_of, IsOnly}
use Rattle.node_arena.proofs.BlockLists.{contains-concat, insert-place, length-put_before, put_before-only, sum_that_fits}
use Rattle.node_arena.proofs.ordered_keys.OrderedKeys.put_before.Goals as goal

pub put_in-requires-clause-there : goal.put_in-requires-clause-there
put_in-requires-clause-there c = rw c.as_slice.ensures.value at (c.in-Some.ensures.there (c.in-Some.number, c.in-Some.place) refl)

-- the whole list when a key has come into the block of the next one
put : {blocks : List (List ℕ)} {n : ℕ} (i c : ℕ) {b : ℕ} → IsOnly blocks n b → i ≡ place_in (block_of blocks n) b →
    concat (set blocks n (insert (block_of blocks n) i c)) ≡ put_before (concat blocks) c b
put {blocks} {n} i c {b} only e =
    ap (λ j. concat (set blocks n (insert (block_of blocks n) j c))) e
    ∙ (ap (λ xs. concat (set blocks n xs)) (insert-place (block_of blocks n) c b only.found) ∙ put_before-only blocks n c b only)

pub invariant_of-self-2 : goal.invariant_of-self-2
invariant_of-self-2 c =
    let blocks = c.self.inside.blocks.items in
    let only : IsOnly blocks c.in-Some.number c.args.next =
    rw c.as_slice.ensures.value at (c.in-Some.ensures.only (c.in-Some.number, c.in-Some.place) refl) in
    let place = rw c.as_slice.ensures.value at (c.in-Some.ensures.place (c.in-Some.number, c.in-Some.place) refl) in
    let keys = c.in_ok-put_in.ensures.put ∙ put c.in-Some.place c.args.key only place in
    let count = sum_that_fits c.checked_add.result _ _ c.in_ok-count.ensures.ok_part c.checked_add.ensures in
    record {
      are_numbered = c.put_in.ensures.numbered;
      filled = c.put_in.ensures.filled;
      counted = omega (arith, count.1, ap (length {A = ℕ}) keys, length-put_before (concat blocks) c.args.key c.args.next, c.self.invariant.counted);
      few = omega (arith, count.0, count.1);
    }

pub returns-clause-there : goal.returns-clause-there
returns-clause-there c there =
    let blocks = c.self.inside.blocks.items in
    let only : IsOnly blocks c.in-Some.number c.args.next =
    rw c.as_slice.ensures.value at (c.in-Some.ensures.only (c.in-Some.number, c.in-Some.place) refl) in
    let place = rw c.as_slice.ensures.value at (c.in-Some.ensures.place (c.in-Some.number, c.in-Some.place) refl) in
    c.in_ok-put_in.ensures.put
    ∙ (put c.in-Some.place c.args.key only place
    ∙ ap (λ (xs : List ℕ). put_before xs c.args.key c.args.next) c.self.view_is)

pub returns-clause-elsewhere : goal.returns-clause-elsewhere
returns-clause-elsewhere c absent =
    let blocks = c.self.inside.blocks.items in
    let only : IsOnly blocks c.in-Some.number c.args.next =
    rw c.as_slice.ensures.value at (c.in-Some.ensures.only (c.in-Some.number, c.in-Some.place) refl) in
    absurd (both_ways _ absent (ap (λ (xs : List ℕ). contains xs c.args.next) (sym c.self.view_is)
    ∙ contains-concat blocks c.in-Some.number c.args.next only.found))
