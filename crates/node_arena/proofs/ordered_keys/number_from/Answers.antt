use Rattle.std.proofs.Common.{◌≡◌, sym, ◌∙◌, subst, [], ap, List, ℕ}
use Rattle.std.proofs.lemmas.List.{get_or_default}
use Rattle.node_arena.specs.Nodes.{contains}
use Rattle.node_arena.specs.Blocks.{AreWritten, block_of}
use Rattle.node_arena.proofs.BlockChanges.{IsNumberedBelow-more}
use Rattle.node_arena.proofs.ordered_keys.number_from.Goals as goal

pub number_block-requires : goal.number_block-requires
number_block-requires c k found =
    let is : c.index-blocks-number.result ≡ block_of c.args.blocks.now c.loop-number.number =
    c.index-blocks-number.is ∙ sym (get_or_default c.args.blocks.now c.loop-number.number [] c.index-blocks-number.result c.loop-number-test.true) in
    c.loop-number.invariant.within c.loop-number.number k (ap (λ (xs : List ℕ). contains xs k) (sym is) ∙ found)

pub loop-number-preserved : goal.loop-number-preserved
loop-number-preserved c =
    let is : c.index-blocks-number.result ≡ block_of c.args.blocks.now c.loop-number.number =
    c.index-blocks-number.is ∙ sym (get_or_default c.args.blocks.now c.loop-number.number [] c.index-blocks-number.result c.loop-number-test.true) in
    IsNumberedBelow-more c.loop-number.invariant
    (subst (λ (xs : List ℕ). AreWritten c.loop-number.numbers.items c.number_block.new.numbers.items xs c.loop-number.number) is c.number_block.ensures)
