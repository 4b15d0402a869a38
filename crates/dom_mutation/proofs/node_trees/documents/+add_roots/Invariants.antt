use Rattle.dom_base.proofs.Std.{◌-◌, map, option_map}
use Rattle.dom_model.proofs.Model.{inclusive_descendants}
use Rattle.dom_tree.specs.Definitions.{name_at}
use Rattle.dom_laws.proofs.Laws.{left}
use Rattle.dom_mutation.specs.Documents.{roots_within}
use Rattle.dom_mutation.proofs.RootsBelow.{Lists}
use Rattle.dom_mutation.proofs.node_trees.documents.+add_roots.Given as goal

abbrev pub decreases-add_roots : goal.decreases-add_roots
decreases-add_roots l = l.depth

abbrev pub invariant-loop-at : goal.invariant-loop-at
invariant-loop-at l =
    Lists l.forest l.slots.hosts (roots_within (l.depth - 1) l.forest l.slots.hosts) (map (name_at l.forest.names) l.fn.roots.items) l.top l.roots.items l.at

abbrev pub decreases-loop-at : goal.decreases-loop-at
decreases-loop-at l = left (inclusive_descendants l.forest.trees (name_at l.forest.names l.top)) (option_map (name_at l.forest.names) l.at)
