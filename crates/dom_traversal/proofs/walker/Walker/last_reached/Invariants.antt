use Rattle.dom_traversal.proofs.Cited.{length, option_map, name_at, up_to_tree, filter_of, KeyedWalker}
use Rattle.dom_traversal.proofs.Reaching.{stop_from}
use Rattle.dom_traversal.proofs.ReachingBack.{ReachesBack}
use Rattle.dom_traversal.proofs.walker.Walker.last_reached.Given as goal

abbrev pub invariant-loop-at : goal.invariant-loop-at
invariant-loop-at l =
    let w : KeyedWalker = record { root = l.self-inside.root; current = l.self-inside.current; filter = filter_of l.self-inside.filter } in
    ReachesBack l.forest w l.top l.initial.at l.at

abbrev pub decreases-loop-at : goal.decreases-loop-at
decreases-loop-at l =
    let w : KeyedWalker = record { root = l.self-inside.root; current = l.self-inside.current; filter = filter_of l.self-inside.filter } in
    length (up_to_tree l.forest.trees (stop_from l.forest w l.top l.initial.at) (option_map (name_at l.forest.names) l.at))
