use Rattle.dom_base.proofs.Std.{◌≡◌, fold, map, take}
use Rattle.dom_tree.specs.Definitions.{name_at}
use Rattle.dom_mutation.specs.Documents.{under_each}
use Rattle.dom_mutation.proofs.node_trees.documents.set_each.Given as goal

abbrev pub invariant-loop-top : goal.invariant-loop-top
invariant-loop-top l =
    (l.forest.names ≡ l.fn.forest.names)
    × (l.forest.trees ≡ fold (under_each (name_at l.fn.forest.names l.document)) l.fn.forest.trees (map (name_at l.fn.forest.names) (take l.top-index l.tops)))
