-- Some bytes are read, and the limit leaves room for the others.
use Rattle.dom_base.proofs.Std.{◌≡◌, ◌+◌, List, ℕ, length}
use Rattle.dom_engine.specs.Run.{input_limit}
use Rattle.dom_engine.specs.Reading.{HasRead}
use Rattle.dom_engine.proofs.runner.Runner.read_all.Given as goal

abbrev pub invariant-loop-left : goal.invariant-loop-left
invariant-loop-left g l = (given : List ℕ)
    × HasRead given l.fn.self.view (g.R.Source.remaining l.fn.source) (g.R.Source.remaining l.source) (g.W.Sink.contents l.fn.sink, g.W.Sink.taken l.fn.sink)
    (g.W.Sink.contents l.sink, g.W.Sink.taken l.sink) l.self.splitter l.self.session.world
    × (l.self.view ≡ l.fn.self.view) × (length given + l.left ≡ input_limit) × (g.R.Source.failures l.source ≡ g.R.Source.failures l.fn.source) ×
    (g.W.Sink.failures l.sink ≡ g.W.Sink.failures l.fn.sink) ×
    (g.R.Source.delivered l.source ≡ g.R.Source.delivered l.fn.source + length given)

abbrev pub decreases-loop-left : goal.decreases-loop-left
decreases-loop-left g l = l.left
