use Rattle.dom_base.proofs.Std.{◌≡◌, length}
use Rattle.dom_layer_tests.proofs.arena.unlink_even.Given as goal

abbrev pub invariant-loop-child : goal.invariant-loop-child
invariant-loop-child l = length l.arena.payloads ≡ length l.initial.arena.payloads
