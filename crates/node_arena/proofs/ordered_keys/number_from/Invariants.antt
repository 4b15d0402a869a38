use Rattle.node_arena.specs.Blocks.{IsNumberedBelow}
use Rattle.node_arena.proofs.ordered_keys.number_from.Given as goal

abbrev pub invariant-loop-number : goal.invariant-loop-number
invariant-loop-number l = IsNumberedBelow l.blocks l.numbers.items l.number
