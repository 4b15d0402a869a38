use Rattle.dom_base.proofs.Std.{◌≡◌, length}
use Rattle.node_arena.specs.Nodes.{ancestors_of}
use Rattle.dom_tree.proofs.Walks.{IsOnWay}
use Rattle.dom_tree.proofs.OrderWithin.{behind_in}
use Rattle.dom_tree.proofs.forest.node_at.NodeAt.following.Given as goal

abbrev pub invariant-loop-forest : goal.invariant-loop-forest
invariant-loop-forest l =
    (l.at.whole ≡ l.initial.at.whole) × IsOnWay behind_in behind_in l.initial.at.whole l.fn.top l.initial.at.key l.at.key

abbrev pub decreases-loop-forest : goal.decreases-loop-forest
decreases-loop-forest l = length (ancestors_of l.initial.at.whole.children l.at.key)
