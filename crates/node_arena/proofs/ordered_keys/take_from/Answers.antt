use Rattle.std.proofs.Common.{◌≡◌, [], ◌∙◌}
use Rattle.std.proofs.lemmas.List.{get_or_default}
use Rattle.node_arena.specs.Blocks.{block_of}
use Rattle.node_arena.proofs.BlockChanges.{IsNumbered-taken}
use Rattle.node_arena.proofs.ordered_keys.take_from.Goals as goal

pub take_out_if_empty-requires-clause-numbered : goal.take_out_if_empty-requires-clause-numbered
take_out_if_empty-requires-clause-numbered c =
    let blocks = c.args.blocks.now.items in
    let is : c.index_mut.result.now ≡ block_of blocks c.args.number =
    c.index_mut.ensures.value ∙ get_or_default blocks c.args.number c.index_mut.result.now [] c.requires.there.0 in
    rw (c.remove.ensures, is) (IsNumbered-taken c.args.number c.args.place c.requires.there.0 c.requires.numbered)
