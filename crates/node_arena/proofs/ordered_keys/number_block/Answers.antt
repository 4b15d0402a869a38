use Rattle.std.proofs.Common.{◌≡◌, ◌<◌, ℕ, true, List, length, get_or, sym, ◌∙◌, ap, arith}
use Rattle.std.proofs.lemmas.List.{get_or_default, take_more}
use Rattle.node_arena.specs.Nodes.{contains}
use Rattle.node_arena.proofs.BlockLists.{contains-at}
use Rattle.node_arena.proofs.BlockChanges.{AreWritten-more}
use Rattle.node_arena.proofs.ordered_keys.number_block.Goals as goal

-- the key that the loop is at is the block's
at_key : {keys block : List ℕ} (i : ℕ) {x k : ℕ} → keys ≡ block → i < length keys → k ≡ x → x ≡ get_or keys i x →
    (get_or keys i 0 ≡ k) × (contains block k ≡ true)
at_key {keys} i {x} {k} all within same is =
    let here = get_or_default keys i 0 x within ∙ (sym is ∙ sym same) in
    (here, ap (λ xs. contains xs k) (sym all) ∙ contains-at keys i k within here)

pub index_mut-requires : goal.index_mut-requires
index_mut-requires c =
    let at = at_key c.loop-key.key-index c.loop-key.invariant.keys c.loop-key-test.true c.key.view_is c.key-item.is in
    omega (arith, c.requires c.key.inside.index at.1, c.loop-key.invariant.are_written.size, c.loop-key.numbers.ok)

pub loop-key-preserved : goal.loop-key-preserved
loop-key-preserved c =
    let at = at_key c.loop-key.key-index c.loop-key.invariant.keys c.loop-key-test.true c.key.view_is c.key-item.is in record {
      keys = c.loop-key.invariant.keys;
      are_written = rw (take_more c.keys-key-items.result.now c.loop-key.key-index 0 c.loop-key-test.true, at.0)
          (AreWritten-more c.key.inside.index c.loop-key.invariant.are_written (c.requires c.key.inside.index at.1));
    }
