use Rattle.dom_base.proofs.Std.{◌≡◌, ℕ, List, ◌<◌, ◌++◌, true, length, map, All, filter, option_map, ForSome}
use Rattle.dom_model.proofs.Model.{node_in, children_of}
use Rattle.dom_tree.specs.Definitions.{name_at}
use Rattle.dom_slots.specs.Definitions.{looks_for, waiting_under, is_wanted}
use Rattle.dom_slots.proofs.Siblings.{from_item, IsChild}
use Rattle.dom_slots.proofs.waiting.waiting_below.Given as goal

abbrev pub invariant-loop-at : goal.invariant-loop-at
invariant-loop-at l = record {
  child : ForSome l.at (IsChild l.forest (name_at l.forest.names l.fn.host));
  nodes : (name : List ℕ) → All (λ k. k < length l.forest.names) (waiting_under l.waiting name);
  left : (name : List ℕ) → is_wanted (option_map (λ a. a.now) l.wanted) name ≡ true →
      map (name_at l.forest.names) (waiting_under l.waiting name) ++ filter (λ y. looks_for name (node_in l.forest.trees y))
      (from_item (children_of l.forest.trees (name_at l.forest.names l.fn.host)) (option_map (name_at l.forest.names) l.at))
      ≡ filter (λ y. looks_for name (node_in l.forest.trees y)) (children_of l.forest.trees (name_at l.forest.names l.fn.host));
}

abbrev pub decreases-loop-at : goal.decreases-loop-at
decreases-loop-at l = length (from_item (children_of l.forest.trees (name_at l.forest.names l.fn.host)) (option_map (name_at l.forest.names) l.at))
