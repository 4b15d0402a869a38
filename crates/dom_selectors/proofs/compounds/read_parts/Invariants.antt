-- Those so far, and those read from here on, are all.
use Rattle.dom_selectors.proofs.Cited.{◌≡◌, length, map, read_all, read_part, behind_list, part_view}
use Rattle.dom_selectors.proofs.compounds.read_parts.Given as goal

abbrev pub invariant-loop-parts : goal.invariant-loop-parts
invariant-loop-parts l = behind_list (map part_view l.parts.items) (read_all read_part l.rest) ≡ behind_list (map part_view l.fn.parts.items)
    (read_all read_part l.units)

abbrev pub decreases-loop-parts : goal.decreases-loop-parts
decreases-loop-parts l = length l.rest
