use Rattle.std.proofs.Common.{◌≡◌, ◌+◌, length, take}
use Rattle.std.specs.List.{concat}
use Rattle.node_arena.proofs.ordered_keys.key_at.Given as goal

abbrev pub invariant-loop-number : goal.invariant-loop-number
invariant-loop-number l = length (concat (take l.number l.blocks)) + l.left ≡ l.place
