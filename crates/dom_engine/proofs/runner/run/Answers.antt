-- Where memory is refused at the start, nothing is read or written.
use Rattle.dom_base.proofs.Std.{sym, err_from_is_err_and, MatchResult-weaker}
use Rattle.dom_engine.proofs.ReadLaws.{stops-before}
use Rattle.dom_engine.proofs.PagePrefixes.{page-at_end, page-at_end_in_full}
use Rattle.dom_engine.proofs.runner.run.Goals as goal

pub returns-in_err-runner-clause-stops : goal.returns-in_err-runner-clause-stops
returns-in_err-runner-clause-stops g c =
    let p = err_from_is_err_and c.from_residual.result c.from_residual.ensures.1 in
    rw (p.1, p.2) (stops-before c.args.view _ _)

pub returns-clause-ok : goal.returns-clause-ok
returns-clause-ok g c = rw (sym c.in_ok-runner.ensures.2) c.run_all.ensures.ok

pub returns-clause-page : goal.returns-clause-page
returns-clause-page g c = rw (sym c.in_ok-runner.ensures.2) (MatchResult-weaker c.run_all.result c.run_all.ensures.ok (λ _ ends. page-at_end ends) (λ _ _. tt))

pub returns-clause-page_in_full : goal.returns-clause-page_in_full
returns-clause-page_in_full g c =
    rw (sym c.in_ok-runner.ensures.2) (MatchResult-weaker c.run_all.result c.run_all.ensures.ok (λ _ ends. page-at_end_in_full ends) (λ _ _. tt))

pub returns-clause-stops : goal.returns-clause-stops
returns-clause-stops g c = rw (sym c.in_ok-runner.ensures.2) c.run_all.ensures.stops
