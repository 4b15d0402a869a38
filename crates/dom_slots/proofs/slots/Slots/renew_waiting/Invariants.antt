use Rattle.dom_base.proofs.Std.{◌≡◌, ℕ, ◌<◌, List, All, map, take, drop, length}
use Rattle.dom_tree.specs.Definitions.{name_at}
use Rattle.dom_slots.specs.Definitions.{hints_of, Renews, waiting_under, Serves}
use Rattle.dom_slots.proofs.slots.Slots.renew_waiting.Given as goal

abbrev pub invariant-loop-slot : goal.invariant-loop-slot
invariant-loop-slot l = record {
  hosts : l.self.hosts ≡ l.fn.self.hosts;
  hints : hints_of l.self ≡ hints_of l.fn.self;
  renewed : Renews l.forest l.fn.self.hosts (map (name_at l.forest.names) (take l.slot-index l.slots)) l.fn.self.table l.fn.signals.items
      l.self.table l.signals.items;
  served : Serves l.forest l.fn.self.hosts (waiting_under l.waiting) (drop l.slot-index l.slots);
  nodes : (name : List ℕ) → All (λ k. k < length l.forest.names) (waiting_under l.waiting name);
}
