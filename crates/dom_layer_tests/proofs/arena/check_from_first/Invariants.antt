use Rattle.dom_base.proofs.Std.{◌<◌, length, ForSome}
use Rattle.dom_layer_tests.proofs.arena.check_from_first.Given as goal

abbrev pub invariant-loop-payload : goal.invariant-loop-payload
invariant-loop-payload g l = ForSome l.at (λ k. k < length l.arena.payloads)
