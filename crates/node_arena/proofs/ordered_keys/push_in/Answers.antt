use Rattle.std.proofs.Common.{◌≡◌, ◌-◌, ◌∷◌, [], ◌∙◌, arith}
use Rattle.std.proofs.lemmas.List.{get_or_default, length_push}
use Rattle.node_arena.specs.Blocks.{block_of}
use Rattle.node_arena.proofs.BlockLists.{concat-push, concat-push_last}
use Rattle.node_arena.proofs.BlockChanges.{IsGained-new}
use Rattle.node_arena.proofs.ordered_keys.push_in.Goals as goal

pub returns-then-len-lt-FILLED-clause-keys : goal.returns-then-len-lt-FILLED-clause-keys
returns-then-len-lt-FILLED-clause-keys c =
    let blocks = c.args.blocks.now.items in
    let n = c.len-count.result - 1 in
    let is : c.index_mut.result.now ≡ block_of blocks n =
    c.index_mut.ensures.value ∙ get_or_default blocks n c.index_mut.result.now [] (omega (arith, c.args.blocks.now.ok)) in
    rw (c.in_ok-push.ensures, is) (concat-push_last blocks n (c.args.key ∷ []) (omega (arith, c.args.blocks.now.ok)))

pub returns-clause-gained : goal.returns-clause-gained
returns-clause-gained c =
    rw (c.in_ok-push-2.ensures.items, c.in_ok-block.ensures)
    (IsGained-new c.args.blocks.now.items _ c.args.key (omega (arith, length_push c.args.blocks.now.items (c.args.key ∷ []))))

pub returns-clause-keys : goal.returns-clause-keys
returns-clause-keys c = rw (c.in_ok-push-2.ensures.items, c.in_ok-block.ensures) (concat-push c.args.blocks.now.items (c.args.key ∷ []))
