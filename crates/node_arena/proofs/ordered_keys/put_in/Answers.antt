use Rattle.std.proofs.Common.{◌≡◌, [], ◌∙◌}
use Rattle.std.proofs.lemmas.List.{get_or_default}
use Rattle.node_arena.specs.Blocks.{block_of}
use Rattle.node_arena.proofs.BlockChanges.{IsGained-set, IsNumbered-gained, IsWritten-set}
use Rattle.node_arena.proofs.ordered_keys.put_in.Goals as goal

pub split_if_full-requires-clause-numbered : goal.split_if_full-requires-clause-numbered
split_if_full-requires-clause-numbered c =
    let blocks = c.args.blocks.now.items in
    let is : c.index_mut.result.now ≡ block_of blocks c.args.number =
    c.index_mut.ensures.value ∙ get_or_default blocks c.args.number c.index_mut.result.now [] c.requires.there.0 in
    rw (c.in_ok-insert.ensures, is, c.key.view_is)
    (IsNumbered-gained c.requires.numbered c.requires.absent (IsGained-set blocks c.args.number c.args.place c.args.key c.requires.there.0)
    (IsWritten-set c.make_room.new.numbers.items c.args.number c.args.key c.in_ok-make_room.ensures.reach c.make_room.ensures.kept))
