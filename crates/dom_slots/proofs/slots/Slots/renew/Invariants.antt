use Rattle.dom_base.proofs.Std.{◌≡◌, map, take}
use Rattle.dom_tree.specs.Definitions.{name_at}
use Rattle.dom_slots.specs.Definitions.{hints_of, Renews}
use Rattle.dom_slots.proofs.slots.Slots.renew.Given as goal

abbrev pub invariant-loop-slot : goal.invariant-loop-slot
invariant-loop-slot l = record {
  hosts : l.self.hosts ≡ l.fn.self.hosts;
  hints : hints_of l.self ≡ hints_of l.fn.self;
  renewed : Renews l.forest l.fn.self.hosts (map (name_at l.forest.names) (take l.slot-index l.slots)) l.fn.self.table l.fn.signals.items
      l.self.table l.signals.items;
}
