use Rattle.dom_base.proofs.Std.{◌≡◌, ◌<◌, ◌++◌, length, map, All, filter, option_map, ForSome}
use Rattle.dom_model.proofs.Model.{children_of}
use Rattle.dom_tree.specs.Definitions.{name_at}
use Rattle.dom_slots.specs.Definitions.{shadows, is_assigned_at}
use Rattle.dom_slots.proofs.Siblings.{from_item, IsChild}
use Rattle.dom_slots.proofs.slots.Slots.assigned_under.Given as goal

abbrev pub invariant-loop-at : goal.invariant-loop-at
invariant-loop-at l = record {
  child : ForSome l.at (IsChild l.forest (name_at l.forest.names l.fn.host));
  nodes : All (λ k. k < length l.forest.names) l.keys.items;
  left : map (name_at l.forest.names) l.keys.items ++ filter (is_assigned_at (shadows l.forest l.self.hosts) (name_at l.forest.names l.fn.slot))
      (from_item (children_of l.forest.trees (name_at l.forest.names l.fn.host)) (option_map (name_at l.forest.names) l.at))
      ≡ filter (is_assigned_at (shadows l.forest l.self.hosts) (name_at l.forest.names l.fn.slot))
      (children_of l.forest.trees (name_at l.forest.names l.fn.host));
}

abbrev pub decreases-loop-at : goal.decreases-loop-at
decreases-loop-at l = length (from_item (children_of l.forest.trees (name_at l.forest.names l.fn.host)) (option_map (name_at l.forest.names) l.at))
