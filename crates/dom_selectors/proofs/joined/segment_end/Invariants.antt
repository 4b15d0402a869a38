-- What is left answers for the whole, as far as it goes.
use Rattle.dom_selectors.proofs.Cited.{◌<◌, ◌≤◌, length, name_at, complex_from}
use Rattle.dom_selectors.proofs.Searches.{Comes}
use Rattle.dom_selectors.proofs.joined.segment_end.Given as goal

abbrev pub invariant-loop-last : goal.invariant-loop-last
invariant-loop-last l = record {
  node : l.end.key < length l.forest.names;
  shorter : length l.end.links.now ≤ length l.fn.links;
  comes : Comes l.forest.trees (complex_from l.first l.fn.links) (name_at l.forest.names l.fn.key) (complex_from l.first l.end.links.now)
      (name_at l.forest.names l.end.key);
}

abbrev pub decreases-loop-last : goal.decreases-loop-last
decreases-loop-last l = length l.end.links.now
