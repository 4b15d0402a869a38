use Rattle.dom_base.proofs.Std.{◌≡◌, length}
use Rattle.dom_layer_tests.proofs.arena.reorder.Given as goal

abbrev pub invariant-loop-turn : goal.invariant-loop-turn
invariant-loop-turn g l = length l.arena.payloads ≡ length l.fn.arena.payloads
