use Rattle.dom_base.proofs.Std.{◌≡◌, ◌<◌, ◌++◌, length, map, All, filter, option_map, ForSome}
use Rattle.dom_slots.specs.Definitions.{is_slot_called}
use Rattle.dom_model.proofs.Model.{inclusive_descendants}
use Rattle.dom_tree.specs.Definitions.{name_at, StandsIn}
use Rattle.dom_laws.specs.Within.{from_node}
use Rattle.dom_slots.proofs.find.slots_below.Given as goal

abbrev pub invariant-loop-at : goal.invariant-loop-at
invariant-loop-at l = record {
  stands : ForSome l.at (StandsIn l.forest l.top);
  nodes : All (λ k. k < length l.forest.names) l.keys.items;
  left : map (name_at l.forest.names) l.keys.items ++ filter (is_slot_called l.forest.trees (option_map (λ a. a.now) l.name))
      (from_node l.forest.trees (name_at l.forest.names l.top) (option_map (name_at l.forest.names) l.at))
      ≡ filter (is_slot_called l.forest.trees (option_map (λ a. a.now) l.name)) (inclusive_descendants l.forest.trees (name_at l.forest.names l.top));
}

abbrev pub decreases-loop-at : goal.decreases-loop-at
decreases-loop-at l = length (from_node l.forest.trees (name_at l.forest.names l.top) (option_map (name_at l.forest.names) l.at))
