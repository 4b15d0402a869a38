-- The lines so far are run, and their answers are written.
use Rattle.dom_base.proofs.Std.{◌≡◌, map, take}
use Rattle.dom_streams.specs.Writing.{Takes}
use Rattle.dom_engine.specs.Run.{world_after, shown}
use Rattle.dom_engine.proofs.runner.Runner.run_lines.Given as goal

abbrev pub invariant-loop-line : goal.invariant-loop-line
invariant-loop-line g l =
    let done = map (λ line. line.items) (take l.line-index l.lines) in
    (l.self.session.world ≡ world_after l.fn.self.session.world done) × (l.self.splitter ≡ l.fn.self.splitter) × (l.self.view ≡ l.fn.self.view)
    × (g.W.Sink.failures l.sink ≡ g.W.Sink.failures l.fn.sink) ×
    Takes (g.W.Sink.contents l.fn.sink, g.W.Sink.taken l.fn.sink) (g.W.Sink.contents l.sink, g.W.Sink.taken l.sink)
    (shown l.fn.self.view l.fn.self.session.world done)
