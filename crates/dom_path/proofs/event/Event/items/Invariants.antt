use Rattle.dom_path.proofs.Cited.{◌-◌, ◌^◌, length}
use Rattle.dom_path.proofs.Tracks.{IsOnWay}
use Rattle.dom_path.proofs.event.Event.items.Given as goal

abbrev pub invariant-loop-next : goal.invariant-loop-next
invariant-loop-next l = IsOnWay l.forest l.slots.hosts l.self.target l.self.related l.self.composed l.trees l.items.items l.next

-- the number of items fits, so a path without an end would be met by want of memory
abbrev pub decreases-loop-next : goal.decreases-loop-next
decreases-loop-next l = 2 ^ 64 - length l.items.items
