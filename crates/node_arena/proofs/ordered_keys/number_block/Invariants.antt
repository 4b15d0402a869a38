use Rattle.std.proofs.Common.{◌≡◌, take}
use Rattle.node_arena.specs.Blocks.{AreWritten}
use Rattle.node_arena.proofs.ordered_keys.number_block.Given as goal

abbrev pub invariant-loop-key : goal.invariant-loop-key
invariant-loop-key l = record {
  keys : l.key-items ≡ l.fn.block;
  are_written : AreWritten l.fn.numbers.items l.numbers.items (take l.key-index l.key-items) l.fn.number;
}
