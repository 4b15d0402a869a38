use Rattle.dom_traversal.proofs.Cited.{◌<◌, length, option_map, ForSome, accepts, behind, first_of, from_node, name_at, Walker, walker_nodes, filter_of}
use Rattle.dom_traversal.proofs.Cited.{is_passable, walker_view}
use Rattle.dom_traversal.proofs.Forward.{Comes}
use Rattle.dom_traversal.proofs.walker.Walker.next_node.Given as goal

abbrev pub invariant-loop-at : goal.invariant-loop-at
invariant-loop-at l =
    let w : Walker = walker_view l.forest.names
    record { root = l.self-inside.root; current = l.self-inside.current; filter = filter_of l.self-inside.filter } in
    record {
      node : ForSome l.at (λ k. k < length l.forest.names);
      comes : Comes l.forest.trees (accepts l.forest.trees w.filter) (is_passable l.forest.trees w) w.root w.current
          (first_of (walker_nodes l.forest.trees w (behind l.forest.trees w.root w.current))) (option_map (name_at l.forest.names) l.at);
    }

abbrev pub decreases-loop-at : goal.decreases-loop-at
decreases-loop-at l = length (from_node l.forest.trees (name_at l.forest.names l.self-inside.root) (option_map (name_at l.forest.names) l.at))
