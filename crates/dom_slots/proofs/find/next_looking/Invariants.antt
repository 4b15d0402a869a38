use Rattle.dom_base.proofs.Std.{◌≡◌, length, Some, filter, option_map, ForSome}
use Rattle.dom_model.proofs.Model.{NodeName, name_eq, first_of, items_after, node_in, parent_of, siblings}
use Rattle.dom_tree.specs.Definitions.{name_at}
use Rattle.dom_slots.specs.Definitions.{looks_for}
use Rattle.dom_slots.proofs.Siblings.{from_item, IsChild}
use Rattle.dom_slots.proofs.find.next_looking.Given as goal

abbrev pub invariant-loop-at : goal.invariant-loop-at
invariant-loop-at l = record {
  child : (h : NodeName) → parent_of l.forest.trees (name_at l.forest.names l.fn.child) ≡ Some h → ForSome l.at (IsChild l.forest h);
  left : first_of (filter (λ y. looks_for l.name (node_in l.forest.trees y))
      (from_item (siblings l.forest.trees (name_at l.forest.names l.fn.child)) (option_map (name_at l.forest.names) l.at)))
      ≡ first_of (filter (λ y. looks_for l.name (node_in l.forest.trees y))
      (items_after name_eq (name_at l.forest.names l.fn.child) (siblings l.forest.trees (name_at l.forest.names l.fn.child))));
}

abbrev pub decreases-loop-at : goal.decreases-loop-at
decreases-loop-at l = length (from_item (siblings l.forest.trees (name_at l.forest.names l.fn.child)) (option_map (name_at l.forest.names) l.at))
