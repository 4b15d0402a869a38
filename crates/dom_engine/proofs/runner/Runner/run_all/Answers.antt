-- What is left at the end comes behind all that was read.
use Rattle.dom_base.proofs.Std.{MatchResult-weaker}
use Rattle.dom_streams.proofs.WriteLaws.{ends_cases}
use Rattle.dom_engine.proofs.ReadLaws.{ends-run, stops-end}
use Rattle.dom_engine.proofs.runner.Runner.run_all.Goals as goal

pub returns-clause-ok : goal.returns-clause-ok
returns-clause-ok g c =
    let read = c.in_ok-read_all.ensures.read in
    let ends = ends_cases _ _ _ _ c.run_end.result _ _ c.run_end.ensures in
    MatchResult-weaker c.run_end.result ends
    (λ _ written. ends-run read.1 c.in_ok-read_all.ensures.view read.2 read.3 _ written.1) (λ _ _. tt)

pub returns-clause-stops : goal.returns-clause-stops
returns-clause-stops g c =
    let read = c.in_ok-read_all.ensures.read in
    let ends = ends_cases _ _ _ _ c.run_end.result _ _ c.run_end.ensures in
    MatchResult-weaker c.run_end.result ends (λ _ _. tt)
    (λ e stops. stops-end read.1 c.in_ok-read_all.ensures.view read.2 read.3 e _ _ _ stops)
