use Rattle.dom_base.proofs.Std.{◌≡◌, option_map}
use Rattle.dom_model.proofs.Model.{inclusive_descendants}
use Rattle.dom_tree.specs.Definitions.{name_at}
use Rattle.dom_mutation.proofs.Covering.{Sets}
use Rattle.dom_laws.proofs.Laws.{left}
use Rattle.dom_mutation.proofs.node_trees.documents.set_documents.Given as goal

abbrev pub invariant-loop-at : goal.invariant-loop-at
invariant-loop-at l =
    (l.forest.names ≡ l.initial.forest.names)
    × Sets l.initial.forest.names (name_at l.initial.forest.names l.document) (name_at l.initial.forest.names l.top) l.initial.forest.trees l.forest.trees l.at

abbrev pub decreases-loop-at : goal.decreases-loop-at
decreases-loop-at l = left (inclusive_descendants l.initial.forest.trees (name_at l.initial.forest.names l.top))
    (option_map (name_at l.initial.forest.names) l.at)
