use Rattle.dom_base.proofs.Std.{◌≡◌, ◌⊎◌, ℕ, true, Some, take, nat_eq}
use Rattle.dom_model.proofs.Model.{is_in, slot_name, node_in}
use Rattle.dom_tree.specs.Definitions.{name_at}
use Rattle.dom_slots.specs.Definitions.{bearer_at, MayHave, name_code}
use Rattle.dom_slots.specs.declared.index.Bearer.TheVariants.{Only}
use Rattle.dom_slots.proofs.slots.indexed.note_names.Given as goal

abbrev pub invariant-loop-slot : goal.invariant-loop-slot
invariant-loop-slot l = record {
  kept : (h k : ℕ) → MayHave (bearer_at l.fn.index.bearers.entries h) k → MayHave (bearer_at l.index.bearers.entries h) k;
  inside : (h k : ℕ) → bearer_at l.index.bearers.entries h ≡ Some (Only k) →
      (bearer_at l.fn.index.bearers.entries h ≡ Some (Only k)) ⊎ (is_in nat_eq k l.slots ≡ true);
  noted : (k : ℕ) → is_in nat_eq k (take l.slot-index l.slots) ≡ true →
      MayHave (bearer_at l.index.bearers.entries (name_code l.root (slot_name (node_in l.forest.trees (name_at l.forest.names k))))) k;
}
