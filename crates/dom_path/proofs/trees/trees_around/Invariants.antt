use Rattle.dom_path.proofs.Cited.{◌<◌, ◌-◌, ◌^◌, Some, length, option_map, ForSome, name_at, GoesOut}
use Rattle.dom_path.proofs.trees.trees_around.Given as goal

abbrev pub invariant-loop-next : goal.invariant-loop-next
invariant-loop-next l =
    ForSome l.next (λ k. k < length l.forest.names)
    × GoesOut l.forest l.slots.hosts (Some (name_at l.forest.names l.fn.node)) l.trees.items (option_map (name_at l.forest.names) l.next)

-- the number of trees fits, so a way out without an end would be met by want of memory
abbrev pub decreases-loop-next : goal.decreases-loop-next
decreases-loop-next l = 2 ^ 64 - length l.trees.items
