use Rattle.std.proofs.Common.{◌≡◌, ◌/◌, [], length, ◌∙◌, ap, arith, ℕ}
use Rattle.std.specs.Prelude.{IsOk}
use Rattle.std.proofs.lemmas.List.{get_or_default}
use Rattle.node_arena.specs.Blocks.{block_of}
use Rattle.node_arena.proofs.BlockChanges.{IsSplit-cut}
use Rattle.node_arena.proofs.ordered_keys.cut.Goals as goal

pub returns-clause-split : goal.returns-clause-split
returns-clause-split c =
    let blocks = c.args.blocks.now.items in
    let number = c.args.number in
    let half = c.len-half.result / 2 in
    let first : c.index.result.now ≡ block_of blocks number =
    rw c.reserve.ensures.items at c.index.ensures ∙ get_or_default blocks number c.index.result.now [] c.requires.number_is_block in
    let second : c.index_mut.result.now ≡ block_of blocks number =
    rw c.reserve.ensures.items at c.index_mut.ensures.value ∙ get_or_default blocks number c.index_mut.result.now [] c.requires.number_is_block in
    let done : IsOk c.insert.result = c.insert.ensures.succeeds (omega (arith, c.in_ok-reserve.ensures.ok)) in
    let made = rw (done, c.in_ok-tail.ensures.left, c.in_ok-tail.ensures.cut, c.reserve.ensures.items, second) at c.insert.ensures.items in
    let long = ap (length {A = ℕ}) first in
    rw made (IsSplit-cut blocks number half c.requires.number_is_block
    (omega (arith, long, c.len-half.ensures, c.requires.long)) (omega (arith, long, c.len-half.ensures, c.requires.long)))
