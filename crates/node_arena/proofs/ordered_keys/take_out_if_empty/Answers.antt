use Rattle.std.proofs.Common.{◌≡◌, [], ℕ, length, ◌∙◌, ap, arith}
use Rattle.std.proofs.lemmas.List.{get_or_default, nil_from_length}
use Rattle.node_arena.specs.Blocks.{block_of}
use Rattle.node_arena.proofs.BlockChanges.{AreFilled-closed, concat-remove, IsClosed-remove, IsNumberedBelow-closed, IsOnce-closed_up}
use Rattle.node_arena.proofs.ordered_keys.take_out_if_empty.Goals as goal

pub number_from-requires : goal.number_from-requires
number_from-requires c =
    rw (c.as_slice.ensures.value, c.remove.ensures.items)
    (IsNumberedBelow-closed c.requires.numbered (IsClosed-remove c.args.blocks.now.items c.args.number c.requires.number_is_block))

pub returns-clause-keys : goal.returns-clause-keys
returns-clause-keys c =
    let blocks = c.args.blocks.now.items in
    let is : c.index.result.now ≡ block_of blocks c.args.number =
    c.index.ensures ∙ get_or_default blocks c.args.number c.index.result.now [] c.requires.number_is_block in
    rw c.remove.ensures.items (concat-remove blocks c.args.number (nil_from_length _ (omega (arith, c.len.ensures, ap (length {A = ℕ}) is))))

pub returns-clause-numbered : goal.returns-clause-numbered
returns-clause-numbered c = record {
  numbered = rw c.as_slice.ensures.value at c.number_from.ensures;
  once = rw c.remove.ensures.items (IsOnce-closed_up c.requires.numbered.once
      (IsClosed-remove c.args.blocks.now.items c.args.number c.requires.number_is_block));
}

pub returns-clause-filled : goal.returns-clause-filled
returns-clause-filled c = rw c.remove.ensures.items (AreFilled-closed c.requires.filled
    (IsClosed-remove c.args.blocks.now.items c.args.number c.requires.number_is_block))
