-- What the view keeps of the lines so far is written.
use Rattle.dom_base.proofs.Std.{◌≡◌, ◌++◌, List, ℕ, length}
use Rattle.dom_streams.specs.Writing.{Takes}
use Rattle.dom_streams.proofs.ViewLaws.{kept_by}
use Rattle.dom_streams.proofs.view.write_lines_with.Given as goal

abbrev pub invariant-loop-at : goal.invariant-loop-at
invariant-loop-at g l = (front : List ℕ) × (kept_by l.prefix l.fn.text ≡ front ++ kept_by l.prefix l.rest) ×
    Takes (g.W.Sink.contents l.fn.sink, g.W.Sink.taken l.fn.sink) (g.W.Sink.contents l.sink, g.W.Sink.taken l.sink) front
    × (g.W.Sink.failures l.sink ≡ g.W.Sink.failures l.fn.sink)

abbrev pub decreases-loop-at : goal.decreases-loop-at
decreases-loop-at g l = length l.rest
