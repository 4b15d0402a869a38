-- Some that is left matches where some of all does.
use Rattle.dom_selectors.proofs.Cited.{◌≡◌, length, map, selector_matches, name_at, complex_view}
use Rattle.dom_selectors.proofs.query.some_complex_matches.Given as goal

abbrev pub invariant-loop-rest : goal.invariant-loop-rest
invariant-loop-rest l =
    selector_matches l.forest.trees (map complex_view l.rest) (name_at l.forest.names l.fn.key) ≡
    selector_matches l.forest.trees (map complex_view l.complexes) (name_at l.forest.names l.fn.key)

abbrev pub decreases-loop-rest : goal.decreases-loop-rest
decreases-loop-rest l = length l.rest
