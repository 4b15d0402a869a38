use Rattle.dom_base.proofs.Std.{◌≡◌, ◌<◌, All, map, take, length}
use Rattle.dom_model.proofs.Model.{node_of}
use Rattle.dom_tree.specs.Definitions.{name_at}
use Rattle.dom_mutation.proofs.node_trees.steps.NodeTrees.own_slots.Given as goal

abbrev pub invariant-loop-number : goal.invariant-loop-number
invariant-loop-number l =
    (map (name_at l.fn.self.forest.names) l.keys.items ≡ map (node_of l.fn.owner) (take l.number-index l.number-items))
    × All (λ k. k < length l.fn.self.forest.names) l.keys.items
