use Rattle.std.proofs.Common.{◌≡◌, ◌<◌, suc, length, [], sym, ◌∙◌, ap, add-one, arith, ℕ}
use Rattle.std.proofs.lemmas.List.{get_or_default}
use Rattle.node_arena.specs.Blocks.{block_of}
use Rattle.node_arena.proofs.BlockLists.{length-concat_more, length-concat_take}
use Rattle.node_arena.proofs.ordered_keys.count_before.Goals as goal

pub overflow_add-count : goal.overflow_add-count
overflow_add-count c =
    let within : c.loop-before.before < length c.args.blocks.now = omega arith in
    let is : c.index-blocks-before.result ≡ block_of c.args.blocks.now c.loop-before.before =
    c.index-blocks-before.is ∙ sym (get_or_default c.args.blocks.now c.loop-before.before [] c.index-blocks-before.result within) in
    omega (
      arith,
      c.loop-before.invariant,
      c.len-count.ensures,
      ap (length {A = ℕ}) is,
      length-concat_more c.args.blocks.now c.loop-before.before within,
      length-concat_take c.args.blocks.now (suc c.loop-before.before),
      c.requires.few,
    )

pub loop-before-preserved : goal.loop-before-preserved
loop-before-preserved c =
    let within : c.loop-before.before < length c.args.blocks.now = omega arith in
    let is : c.index-blocks-before.result ≡ block_of c.args.blocks.now c.loop-before.before =
    c.index-blocks-before.is ∙ sym (get_or_default c.args.blocks.now c.loop-before.before [] c.index-blocks-before.result within) in
    rw add-one (omega (
      arith,
      c.loop-before.invariant,
      c.len-count.ensures,
      ap (length {A = ℕ}) is,
      length-concat_more c.args.blocks.now c.loop-before.before within,
    ))
