-- What the table of each owner's signalled slots holds.
use Rattle.std.specs.Prelude.{◌≡◌, ℕ, nat_lt, true, List, [], length, is_some, slice_get}
use Rattle.std.specs.HashMap.{HashMap, get}
use Rattle.std.specs.Option.{option_map_or}
use Rattle.dom_base.specs.declared.Owner.{Owner}
use Rattle.dom_base.specs.contracts.OwnerPartialEq.TheImpl as OwnerImpl
use Rattle.dom_microtasks.specs.OwnerNumbers.{place_of}
use Rattle.dom_microtasks.specs.declared.by_owner.ByOwner.{ByOwner}
use Rattle.dom_microtasks.specs.declared.by_owner.OwnSlots.{OwnSlots}

-- the numbers of the slots at a place of a list, and how many slots had been signalled when they were last taken
abbrev pub numbers_at : List OwnSlots → ℕ → List ℕ
numbers_at ws i = option_map_or (λ w. w.numbers) (slice_get ws i) []

abbrev pub since_at : List OwnSlots → ℕ → ℕ
since_at ws i = option_map_or (λ w. w.since) (slice_get ws i) 0

-- the same of an owner by a map
abbrev pub numbers_in : {S : Type 0} → HashMap Owner OwnSlots S → Owner → List ℕ
numbers_in m o = option_map_or (λ w. w.numbers) (get OwnerImpl.ghosts.eq m o) []

abbrev pub since_in : {S : Type 0} → HashMap Owner OwnSlots S → Owner → ℕ
since_in m o = option_map_or (λ w. w.since) (get OwnerImpl.ghosts.eq m o) 0

-- the numbers of an owner's slots
abbrev pub numbers_of : ByOwner → Owner → List ℕ
numbers_of t o = option_map_or (λ i. numbers_at t.listed.items i) (place_of o) (numbers_in t.others o)

-- how many slots had been signalled when those of an owner were last taken
abbrev pub since_of : ByOwner → Owner → ℕ
since_of t o = option_map_or (λ i. since_at t.listed.items i) (place_of o) (since_in t.others o)

-- an owner has its place, or its entry
abbrev pub IsThere : ByOwner → Owner → Type 0
IsThere t o = option_map_or (λ i. nat_lt i (length t.listed.items)) (place_of o) (is_some (get OwnerImpl.ghosts.eq t.others o)) ≡ true
