use Rattle.dom_base.proofs.Std.{◌≡◌, ℕ, length}
use Rattle.dom_microtasks.specs.ByOwner.{numbers_at, since_at}
use Rattle.dom_microtasks.proofs.by_owner.reach.Given as goal

abbrev pub invariant-loop : goal.invariant-loop
invariant-loop l =
    ((i : ℕ) → numbers_at l.listed.items i ≡ numbers_at l.fn.listed.items i)
    × ((i : ℕ) → since_at l.listed.items i ≡ since_at l.fn.listed.items i)
    × (length l.listed.items ≡ l.counter)
