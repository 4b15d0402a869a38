-- Those so far, and those read from here on, are all.
use Rattle.dom_selectors.proofs.Cited.{◌≡◌, length, map, read_all, read_link, behind_list, link_view}
use Rattle.dom_selectors.proofs.compounds.read_links.Given as goal

abbrev pub invariant-loop-links : goal.invariant-loop-links
invariant-loop-links l = behind_list (map link_view l.links.items) (read_all read_link l.rest) ≡ read_all read_link l.units

abbrev pub decreases-loop-links : goal.decreases-loop-links
decreases-loop-links l = length l.rest
