-- The lines of the calls so far, and of one more.
use Rattle.dom_dispatch.proofs.Cited.{rules}
use Rattle.dom_dispatch.proofs.listeners.Listeners.call_all.Goals as goal

pub loop-listener-preserved : goal.loop-listener-preserved
loop-listener-preserved c = record {
  calls = search rules;
  lines = λ names paths owner path before.
      c.in_ok-call.ensures.lines names paths owner path (c.loop-listener.invariant.lines names paths owner path before);
}
