-- The lines that a piece ends are run as they come.
use Rattle.dom_base.proofs.Std.{refl, err_from_is_err_and}
use Rattle.dom_engine.proofs.LineRuns.{none_written}
use Rattle.dom_engine.proofs.runner.Runner.take_piece.Goals as goal

pub returns-in_err-lines-clause-written : goal.returns-in_err-lines-clause-written
returns-in_err-lines-clause-written g c =
    let p = err_from_is_err_and c.from_residual.result c.from_residual.ensures.1 in
    rw (p.1, p.2) (refl, none_written _ c.args.self.now.view c.args.self.now.session.world _)
