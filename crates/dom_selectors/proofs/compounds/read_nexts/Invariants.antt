-- Those so far, and those read from here on, are all.
use Rattle.dom_selectors.proofs.Cited.{◌≡◌, length, [], ◌∷◌, map, read_all, read_next, behind_list, complex_view}
use Rattle.dom_selectors.proofs.compounds.read_nexts.Given as goal

abbrev pub invariant-loop-complexes : goal.invariant-loop-complexes
invariant-loop-complexes l = behind_list (map complex_view l.complexes.items) (read_all read_next l.rest) ≡ behind_list
    (complex_view l.fn.first ∷ []) (read_all read_next l.units)

abbrev pub decreases-loop-complexes : goal.decreases-loop-complexes
decreases-loop-complexes l = length l.rest
