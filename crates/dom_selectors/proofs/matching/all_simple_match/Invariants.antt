-- The simple selectors that are left match where all do.
use Rattle.dom_selectors.proofs.Cited.{◌≡◌, length, list_all, name_at, simple_matches, simple_view}
use Rattle.dom_selectors.proofs.matching.all_simple_match.Given as goal

abbrev pub invariant-loop-rest : goal.invariant-loop-rest
invariant-loop-rest l =
    list_all (λ s. simple_matches l.forest.trees (name_at l.forest.names l.fn.key) (simple_view s)) l.rest ≡
    list_all (λ s. simple_matches l.forest.trees (name_at l.forest.names l.fn.key) (simple_view s)) l.simples

abbrev pub decreases-loop-rest : goal.decreases-loop-rest
decreases-loop-rest l = length l.rest
