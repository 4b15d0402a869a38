-- The ending comes behind the last line.
use Rattle.dom_text.specs.Definitions.{last_line}
use Rattle.dom_engine.proofs.LineRuns.{Behind, ending_behind}
use Rattle.dom_engine.proofs.runner.Runner.run_end.Goals as goal

pub returns : goal.returns
returns g c =
    let s = c.args.self.now in
    let last = c.in_ok-run_last_line.ensures in
    let at : Behind s.view s.session.world (last_line s.splitter) _ _ = record { same = last.view; world = last.world } in
    ending_behind at (record { none_failed = last.written.0; takes = last.written.1 }) c.run_ending.result _ _ c.run_ending.ensures
