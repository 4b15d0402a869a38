use Rattle.std.proofs.Common.{◌≢◌, ℕ, ◌<◌, ◌≤◌, Some, slice_get}
use Rattle.node_arena.proofs.block.place_among.Given as goal

abbrev pub invariant-loop-place : goal.invariant-loop-place
invariant-loop-place l = (i : ℕ) → l.from ≤ i → i < l.place → slice_get l.keys i ≢ Some l.fn.key
