-- The parts that are left match where all do.
use Rattle.dom_selectors.proofs.Cited.{◌≡◌, length, list_all, part_matches, name_at, compound_view}
use Rattle.dom_selectors.proofs.matching.all_parts_match.Given as goal

abbrev pub invariant-loop-rest : goal.invariant-loop-rest
invariant-loop-rest l =
    list_all (part_matches l.node.whole.trees (name_at l.node.whole.names l.node.key)) (compound_view l.rest) ≡
    list_all (part_matches l.node.whole.trees (name_at l.node.whole.names l.node.key)) (compound_view l.parts)

abbrev pub decreases-loop-rest : goal.decreases-loop-rest
decreases-loop-rest l = length l.rest
