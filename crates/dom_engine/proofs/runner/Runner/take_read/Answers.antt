-- A flush that fails comes before the read.
use Rattle.dom_base.proofs.Std.{length, err_from_is_err_and}
use Rattle.dom_engine.specs.Run.{shown}
use Rattle.dom_engine.proofs.ReadLaws.{flush-stops}
use Rattle.dom_engine.proofs.runner.Runner.take_read.Goals as goal

pub returns-in_err-flush_before_read-clause-stops : goal.returns-in_err-flush_before_read-clause-stops
returns-in_err-flush_before_read-clause-stops g c =
    let p = err_from_is_err_and c.from_residual.result c.from_residual.ensures.1 in
    rw (p.1, p.2) (flush-stops _ _ _ _ _ (length c.args.buffer.now)
    (shown c.args.self.now.view c.args.self.now.session.world) c.args.self.now.splitter _ c.in_err-flush_before_read.ensures.written)
