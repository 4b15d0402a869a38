-- Some first bytes are written, and the rest is to come.
use Rattle.dom_base.proofs.Std.{◌≡◌, ◌++◌, List, ℕ, length}
use Rattle.dom_streams.specs.Writing.{Takes}
use Rattle.dom_streams.proofs.writing.write_all_to.Given as goal

abbrev pub invariant-loop-rest : goal.invariant-loop-rest
invariant-loop-rest g l = (front : List ℕ) × (l.fn.bytes ≡ front ++ l.rest) ×
    Takes (g.W.Sink.contents l.fn.sink, g.W.Sink.taken l.fn.sink) (g.W.Sink.contents l.sink, g.W.Sink.taken l.sink) front ×
    (g.W.Sink.failures l.sink ≡ g.W.Sink.failures l.fn.sink)

abbrev pub decreases-loop-rest : goal.decreases-loop-rest
decreases-loop-rest g l = length l.rest
