-- Those so far, and those read from here on, are all.
use Rattle.dom_selectors.proofs.Cited.{◌≡◌, length, map, read_all, read_simple, behind_list, simple_view}
use Rattle.dom_selectors.proofs.compounds.read_simples.Given as goal

abbrev pub invariant-loop-simples : goal.invariant-loop-simples
invariant-loop-simples l = behind_list (map simple_view l.simples.items) (read_all read_simple l.rest) ≡ behind_list
    (map simple_view l.fn.simples.items) (read_all read_simple l.units)

abbrev pub decreases-loop-simples : goal.decreases-loop-simples
decreases-loop-simples l = length l.rest
