-- The bytes so far are taken.
use Rattle.dom_base.proofs.Std.{◌≡◌, ◌++◌, List, ℕ, length}
use Rattle.dom_streams.specs.Writing.{Takes}
use Rattle.dom_reader.specs.Streams.{fed}
use Rattle.dom_engine.specs.Run.{shown}
use Rattle.dom_engine.proofs.LineRuns.{Behind}
use Rattle.dom_engine.proofs.runner.Runner.take_bytes.Given as goal

abbrev pub invariant-loop-rest : goal.invariant-loop-rest
invariant-loop-rest g l = (passed : List ℕ) × (l.fn.bytes ≡ passed ++ l.rest) × (l.self.splitter ≡ (fed l.fn.self.splitter passed).rest)
    × Behind l.fn.self.view l.fn.self.session.world (fed l.fn.self.splitter passed).finished l.self.view l.self.session.world
    × (g.W.Sink.failures l.sink ≡ g.W.Sink.failures l.fn.sink) ×
    Takes (g.W.Sink.contents l.fn.sink, g.W.Sink.taken l.fn.sink) (g.W.Sink.contents l.sink, g.W.Sink.taken l.sink)
    (shown l.fn.self.view l.fn.self.session.world (fed l.fn.self.splitter passed).finished)

abbrev pub decreases-loop-rest : goal.decreases-loop-rest
decreases-loop-rest g l = length l.rest
