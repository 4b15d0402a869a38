use Rattle.std.proofs.Common.{◌≡◌, suc, length, take, List, ℕ, refl, ap, arith}
use Rattle.std.specs.List.{concat}
use Rattle.std.proofs.lemmas.Option.{same_Some}
use Rattle.node_arena.specs.Nodes.{place_in}
use Rattle.node_arena.specs.Blocks.{block_of, IsOnly}
use Rattle.node_arena.proofs.BlockLists.{contains-concat, length-concat_more, length-concat_take, place_in-only}
use Rattle.node_arena.proofs.ordered_keys.OrderedKeys.find.Goals as goal

pub count_before-requires-clause-number_is_block : goal.count_before-requires-clause-number_is_block
count_before-requires-clause-number_is_block c =
    let within = c.in_ok-number.ensures.there (c.in_ok-number.number, c.in_ok-number.place) refl in
    omega (arith, within.0, ap (length {A = List ℕ}) c.as_slice.ensures.value, ap (length {A = List ℕ}) c.as_slice-3.ensures.value)

pub count_before-requires-clause-few : goal.count_before-requires-clause-few
count_before-requires-clause-few c = rw c.as_slice-3.ensures.value (omega (arith, c.self.invariant.counted, c.self.invariant.few))

pub overflow_add-result : goal.overflow_add-result
overflow_add-result c =
    let blocks = c.self.inside.blocks.items in
    let within = rw c.as_slice.ensures.value at (c.in_ok-number.ensures.there (c.in_ok-number.number, c.in_ok-number.place) refl) in
    let count = rw c.as_slice-3.ensures.value at c.count_before.ensures in
    omega (
      arith,
      count,
      within.1,
      length-concat_more blocks c.in_ok-number.number within.0,
      length-concat_take blocks (suc c.in_ok-number.number),
      c.self.invariant.counted,
      c.self.invariant.few,
    )

pub returns-clause-found : goal.returns-clause-found
returns-clause-found c i is =
    let blocks = c.self.inside.blocks.items in
    let only : IsOnly blocks c.in_ok-number.number c.args.key =
    rw c.as_slice.ensures.value at (c.in_ok-number.ensures.only (c.in_ok-number.number, c.in_ok-number.place) refl) in
    let place : c.in_ok-number.place ≡ place_in (block_of blocks c.in_ok-number.number) c.args.key =
    rw c.as_slice.ensures.value at (c.in_ok-number.ensures.place (c.in_ok-number.number, c.in_ok-number.place) refl) in
    let count : c.count_before.result ≡ length (concat (take c.in_ok-number.number blocks)) = rw c.as_slice-3.ensures.value at c.count_before.ensures in
    rw (← c.self.view_is) (
      contains-concat blocks c.in_ok-number.number c.args.key only.found,
      omega (arith, same_Some _ _ is, count, place, place_in-only blocks c.in_ok-number.number c.args.key only),
    )
