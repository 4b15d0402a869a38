-- How a table holds its ranges: in slots, and each owner's list of slots.
use Rattle.std.specs.Prelude.{◌≡◌, ℕ, ◌<◌, List, [], ◌∷◌, map, slice_get, Option, Some, None, IsSome, option_map, MatchOption}
use Rattle.std.specs.HashMap.{get as value_at}
use Rattle.std.specs.Vec.{vec_len, vec_capacity}
use Rattle.std.specs.Option.{option_map_or}
use Rattle.slab.specs.Slab.{Slab, get}
use Rattle.dom_base.specs.declared.Owner.{Owner}
use Rattle.dom_base.specs.declared.Owner.TheVariants.{Page, Component}
use Rattle.dom_base.specs.contracts.OwnerPartialEq.TheImpl as OwnerImpl
use Rattle.dom_model.specs.Ranges.{Range}
use Rattle.dom_ranges.specs.declared.numbers.Numbers.{Numbers}
use Rattle.dom_ranges.specs.declared.table.Points.{Points}
use Rattle.dom_ranges.specs.Tables.{RangeLists, range_from}

-- the slots of an owner's ranges, by the ranges' numbers
abbrev pub slots_of : Numbers → Owner → List (Option ℕ)
slots_of n Page = n.page.items
slots_of n (Component k) = option_map_or (λ v. v.items) (value_at OwnerImpl.ghosts.eq n.components (Component k)) []

-- there is room for one range more of an owner
abbrev pub HasRoom : Numbers → Owner → Type 0
HasRoom n Page = vec_len n.page < vec_capacity n.page
HasRoom n (Component k) = MatchOption (value_at OwnerImpl.ghosts.eq n.components (Component k)) ⊥ (λ v. vec_len v < vec_capacity v)

-- an owner has a list of slots
abbrev pub HasList : Numbers → Owner → Type 0
HasList n o = IsSome (value_at OwnerImpl.ghosts.eq n.components o)

-- the lists of all owners
abbrev pub lists_of : Numbers → List (Owner × List (Option ℕ))
lists_of n = (Page, n.page.items) ∷ map (λ e. (e.0, e.1.items)) n.components.entries

-- the range in a slot
abbrev pub range_kept : Slab Points → Option ℕ → Option (Range ℕ)
range_kept live None = None
range_kept live (Some slot) = option_map range_from (get live slot)

-- the ranges of all owners
abbrev pub shown : Slab Points → Numbers → RangeLists
shown live n = map (λ e. (e.0, map (range_kept live) e.1)) (lists_of n)

-- a slot stands under a number of an owner
abbrev pub StandsUnder : Numbers → ℕ → Owner → ℕ → Type 0
StandsUnder n slot o k = slice_get (slots_of n o) k ≡ Some (Some slot)

-- the slots of the lists are just those that hold a range, each under one number of one owner
pub record HaveNumbers (live : Slab Points) (n : Numbers) : Type 0 where
  pub held : (o : Owner) (k slot : ℕ) → StandsUnder n slot o k → IsSome (get live slot)
  pub apart : (o p : Owner) (j k slot : ℕ) → StandsUnder n slot o j → StandsUnder n slot p k → (o ≡ p) × (j ≡ k)
  pub used : (slot : ℕ) → IsSome (get live slot) → (o : Owner) × (k : ℕ) × StandsUnder n slot o k
