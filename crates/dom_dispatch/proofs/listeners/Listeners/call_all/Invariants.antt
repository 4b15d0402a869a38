use Rattle.dom_dispatch.proofs.Cited.{◌≡◌, nat_eq, fold, length, after_inner_invoke, listeners_in, event_words, visit_in, dispatching_in, KeepsLines}
use Rattle.dom_dispatch.proofs.listeners.Listeners.call_all.Given as goal

-- those that are still to be called end where all do
abbrev pub invariant-loop-listener : goal.invariant-loop-listener
invariant-loop-listener l = record {
  calls : fold (after_inner_invoke nat_eq (event_words l.event) (visit_in l.visit)) (dispatching_in l.self l.so_far) (listeners_in l.heard.items)
      ≡ fold (after_inner_invoke nat_eq (event_words l.event) (visit_in l.visit)) (dispatching_in l.fn.self l.fn.so_far) (listeners_in l.fn.heard.items);
  lines : KeepsLines l.visit l.fn.so_far l.so_far;
}

abbrev pub decreases-loop-listener : goal.decreases-loop-listener
decreases-loop-listener l = length l.heard.items
