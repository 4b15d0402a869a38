use Rattle.dom_engine.proofs.SessionRuns.{session-begins, session-goes_on, session-tells_all, session-has_page, session-has_group, same-sessions}
use Rattle.dom_engine.proofs.SessionRuns.{same-sessions_by_strategy, same-sessions_by_strategies}
use Rattle.dom_engine.proofs.laws.law_sessions.Goals as goal

pub returns : goal.returns
returns c = record {
  begins = session-begins;
  goes_on = session-goes_on;
  all = session-tells_all;
  page = session-has_page;
  group = session-has_group;
  same = same-sessions;
  strategy = same-sessions_by_strategy;
  strategies = same-sessions_by_strategies;
}
