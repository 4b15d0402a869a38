use Rattle.dom_base.proofs.Std.{◌<◌, length, ForSome}
use Rattle.dom_layer_tests.proofs.arena.check_from_last.Given as goal

abbrev pub invariant-loop-payload : goal.invariant-loop-payload
invariant-loop-payload g l =
    (goal.iterator-loop-payload g).can_next l.payload-iterator
    × (goal.iterator-loop-payload g).is_finite l.payload-iterator
    × ForSome l.at (λ k. k < length l.arena.payloads)
