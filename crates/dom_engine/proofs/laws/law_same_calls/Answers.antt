use Rattle.dom_engine.proofs.CallRuns.{calls-begin, calls-go_on, calls-tell_all, calls-have_page, calls-have_group, same-calls}
use Rattle.dom_engine.proofs.CallRuns.{same-calls_by_strategy, same-calls_by_strategies}
use Rattle.dom_engine.proofs.laws.law_same_calls.Goals as goal

pub returns : goal.returns
returns c = record {
  begins = calls-begin;
  goes_on = calls-go_on;
  all = calls-tell_all;
  page = calls-have_page;
  group = calls-have_group;
  same = same-calls;
  strategy = same-calls_by_strategy;
  strategies = same-calls_by_strategies;
}
