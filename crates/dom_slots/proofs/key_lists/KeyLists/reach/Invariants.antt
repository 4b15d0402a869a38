use Rattle.dom_base.proofs.Std.{◌≡◌, ℕ, length}
use Rattle.dom_slots.specs.Definitions.{list_at}
use Rattle.dom_slots.proofs.key_lists.KeyLists.reach.Given as goal

abbrev pub invariant-loop : goal.invariant-loop
invariant-loop l = ((k : ℕ) → list_at l.self.rows.items k ≡ list_at l.fn.self.rows.items k) × (length l.self.rows.items ≡ l.counter)
