-- Where no byte is left, there is no last line.
use Rattle.dom_base.proofs.Std.{sym, refl}
use Rattle.dom_engine.proofs.LineRuns.{behind-none, shows-none}
use Rattle.dom_engine.proofs.runner.Runner.run_last_line.Goals as goal

pub returns-in-None-clause-written : goal.returns-in-None-clause-written
returns-in-None-clause-written g c = (refl, shows-none _ c.args.self.now.view c.args.self.now.session.world _ (sym c.in-None.ensures.last))

pub returns-in-None-clause-world : goal.returns-in-None-clause-world
returns-in-None-clause-world g c =
    let at = behind-none c.args.self.now.view c.args.self.now.session.world _ (sym c.in-None.ensures.last) in
    at.world
