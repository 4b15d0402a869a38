use Rattle.dom_path.proofs.Cited.{length, name_at}
use Rattle.dom_path.proofs.Goings.{IsOutside}
use Rattle.dom_path.proofs.trees.Trees.add_around.Given as goal

abbrev pub invariant-loop-tree : goal.invariant-loop-tree
invariant-loop-tree l = IsOutside l.forest l.slots.hosts (name_at l.forest.names l.fn.node) l.fn.self l.around.items l.self l.outer

abbrev pub decreases-loop-tree : goal.decreases-loop-tree
decreases-loop-tree l = length l.around.items
