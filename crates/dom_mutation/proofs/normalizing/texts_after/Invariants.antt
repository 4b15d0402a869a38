use Rattle.dom_mutation.proofs.Cited.{option_map, name_in, trees_in}
use Rattle.dom_mutation.proofs.Joined.{Follows, rest_length}
use Rattle.dom_mutation.proofs.normalizing.texts_after.Given as goal

abbrev pub invariant-loop-at : goal.invariant-loop-at
invariant-loop-at l = Follows l.parts l.fn.node l.keys.items l.at

abbrev pub decreases-loop-at : goal.decreases-loop-at
decreases-loop-at l = rest_length (trees_in l.parts l.fn.node) (option_map (name_in l.parts) l.at)
