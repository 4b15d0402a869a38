use Rattle.dom_base.proofs.Std.{◌≡◌, ℕ, false, Some, nat_eq}
use Rattle.dom_model.proofs.Model.{is_in}
use Rattle.dom_slots.specs.Definitions.{bearer_at, MayHave}
use Rattle.dom_slots.specs.declared.index.Bearer.TheVariants.{Only}
use Rattle.dom_slots.proofs.slots.indexed.forget_names.Given as goal

abbrev pub invariant-loop-slot : goal.invariant-loop-slot
invariant-loop-slot l = record {
  kept : (h k : ℕ) → is_in nat_eq k l.slots ≡ false → MayHave (bearer_at l.fn.index.bearers.entries h) k → MayHave (bearer_at l.index.bearers.entries h) k;
  inside : (h k : ℕ) → bearer_at l.index.bearers.entries h ≡ Some (Only k) → bearer_at l.fn.index.bearers.entries h ≡ Some (Only k);
}
