-- What is left answers for the whole.
use Rattle.dom_selectors.proofs.Cited.{◌≡◌, ◌<◌, ◌≤◌, true, length, compound_matches, name_at, complex_from, last_compound}
use Rattle.dom_selectors.proofs.Chains.{Leads}
use Rattle.dom_selectors.proofs.chain.chain_end.Given as goal

abbrev pub invariant-loop-last : goal.invariant-loop-last
invariant-loop-last l = record {
  node : l.at < length l.forest.names;
  shorter : length l.rest ≤ length l.fn.links;
  leads : Leads l.forest.trees (complex_from l.first l.fn.links) (name_at l.forest.names l.fn.key) (complex_from l.first l.rest) (name_at l.forest.names l.at);
  matches : compound_matches l.forest.trees (last_compound (complex_from l.first l.rest)) (name_at l.forest.names l.at) ≡ true;
}

abbrev pub decreases-loop-last : goal.decreases-loop-last
decreases-loop-last l = length l.rest
