use Rattle.dom_traversal.proofs.Cited.{◌≡◌, length, inclusive_ancestors, name_at, StandsIn, filter_of, KeyedWalker, walker_view}
use Rattle.dom_traversal.proofs.Parents.{above_from}
use Rattle.dom_traversal.proofs.walker.Walker.parent_node.Given as goal

abbrev pub invariant-loop-self : goal.invariant-loop-self
invariant-loop-self l =
    let w : KeyedWalker = record { root = l.self-inside.root; current = l.self-inside.current; filter = filter_of l.self-inside.filter } in
    record {
      stands : StandsIn l.forest w.root l.at;
      left : above_from l.forest.trees (walker_view l.forest.names w) (name_at l.forest.names l.at) ≡ above_from l.forest.trees
          (walker_view l.forest.names w) (name_at l.forest.names w.current);
    }

abbrev pub decreases-loop-self : goal.decreases-loop-self
decreases-loop-self l = length (inclusive_ancestors l.forest.trees (name_at l.forest.names l.at))
