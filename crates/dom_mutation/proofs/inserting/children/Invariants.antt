use Rattle.dom_mutation.proofs.Cited.{length, option_map, from_sibling, name_in, trees_in}
use Rattle.dom_mutation.proofs.Listing.{Lists}
use Rattle.dom_mutation.proofs.inserting.children.Given as goal

abbrev pub invariant-loop-at : goal.invariant-loop-at
invariant-loop-at l = Lists l.parts l.fn.node l.keys.items l.at

abbrev pub decreases-loop-at : goal.decreases-loop-at
decreases-loop-at l = length (from_sibling (trees_in l.parts l.fn.node) (option_map (name_in l.parts) l.at))
