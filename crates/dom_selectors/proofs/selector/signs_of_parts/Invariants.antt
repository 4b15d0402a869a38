-- Where all match, those that were passed show the signs.
use Rattle.dom_selectors.proofs.Cited.{◌≡◌, true, list_all, Trees, NodeName, part_matches, compound_view}
use Rattle.dom_selectors.specs.Signs.{Shows}
use Rattle.dom_selectors.proofs.selector.signs_of_parts.Given as goal

abbrev pub invariant-loop-part : goal.invariant-loop-part
invariant-loop-part l = (ts : Trees) (x : NodeName) → list_all (part_matches ts x) (compound_view l.parts) ≡ true → Shows ts x l.signs.bits
