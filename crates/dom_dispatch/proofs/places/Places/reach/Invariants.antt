use Rattle.dom_dispatch.proofs.Cited.{◌≡◌, ℕ, List, length, places_at}
use Rattle.dom_dispatch.proofs.places.Places.reach.Given as goal

abbrev pub invariant-loop : goal.invariant-loop
invariant-loop l = ((k : ℕ) (t : List ℕ) → places_at l.self k t ≡ places_at l.fn.self k t) × (length l.self.rows.items ≡ l.counter)
