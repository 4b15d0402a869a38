use Rattle.node_arena.proofs.BlockChanges.{AreFilled-split, IsNumberedBelow-split, IsOnce-split}
use Rattle.node_arena.proofs.ordered_keys.split_if_full.Goals as goal

pub number_from-requires : goal.number_from-requires
number_from-requires c = rw c.as_slice.ensures.value (IsNumberedBelow-split c.requires.numbered c.in-Ok.ensures.split)

pub returns-clause-numbered : goal.returns-clause-numbered
returns-clause-numbered c = record {
  numbered = rw c.as_slice.ensures.value at c.number_from.ensures;
  once = IsOnce-split c.requires.numbered.once c.in-Ok.ensures.split;
}

pub returns-clause-keys : goal.returns-clause-keys
returns-clause-keys c = c.in-Ok.ensures.split.keys

pub returns-clause-filled : goal.returns-clause-filled
returns-clause-filled c = AreFilled-split c.requires.filled c.in-Ok.ensures.split
