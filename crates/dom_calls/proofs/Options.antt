-- What an option holds.
use Rattle.std.proofs.Common.{◌≡◌, refl, sym, true≢false}
use Rattle.std.specs.Prelude.{Option, Some, None, IsSome}

-- the value of an option that has one
pub what_is : {A : Type 0} → (o : Option A) → IsSome o → (x : A) × (o ≡ Some x)
what_is (Some x) h = (x, refl)
what_is None h = absurd (true≢false (sym h))
