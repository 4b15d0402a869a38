use Rattle.dom_dispatch.proofs.Cited.{◌≡◌, ◌≤◌, nat_eq, true, fold, map, reverse, drop, length, AllByRecursion, visit_of, after_invoke, event_words}
use Rattle.dom_dispatch.proofs.Cited.{dispatching_in, IsLineAlong, IsShownOf, paths_of}
use Rattle.dom_dispatch.proofs.listeners.Listeners.capture.Given as goal

abbrev pub invariant-loop-at : goal.invariant-loop-at
invariant-loop-at l = record {
  within : l.at ≤ length l.path.items;
  visits : dispatching_in l.self l.so_far ≡ fold (after_invoke nat_eq (event_words l.event)) (dispatching_in l.fn.self l.fn.so_far)
      (map (visit_of nat_eq true) (reverse (drop l.at l.path.views)));
  shown : IsShownOf l.path l.handed.shown;
  lines : AllByRecursion (IsLineAlong l.forest.names (paths_of l.path)) l.so_far.lines.items;
}

abbrev pub decreases-loop-at : goal.decreases-loop-at
decreases-loop-at l = l.at
