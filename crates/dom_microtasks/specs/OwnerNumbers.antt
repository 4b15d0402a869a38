-- The number that each owner has.
use Rattle.std.specs.Prelude.{ℕ, ◌&&◌, nat_eq, nat_lt, [], ◌∷◌, Option, Some, None, slice_index_or, if◌then◌else◌}
use Rattle.std.specs.HashMap.{get}
use Rattle.std.specs.Option.{option_map_or}
use Rattle.dom_base.specs.declared.Owner.{Owner}
use Rattle.dom_base.specs.declared.Owner.TheVariants.{Page, Component}
use Rattle.dom_base.specs.contracts.OwnerPartialEq.TheImpl as OwnerImpl
use Rattle.dom_base.specs.Owners.{owner_eq, path_of}
use Rattle.dom_microtasks.specs.declared.owner_numbers.OwnerNumbers.{OwnerNumbers}

-- who has a place: the page the first, and the component with one number alone in its word that of this number
unfoldable pub placed : ℕ → Owner
placed n = if nat_eq n 0 then Page else Component (record { depth = 1; parts = n ∷ 0 ∷ 0 ∷ 0 ∷ 0 ∷ 0 ∷ 0 ∷ 0 ∷ [] })

-- the place of such an owner, and none of another one
abbrev pub place_of : Owner → Option ℕ
place_of o = let n = slice_index_or (path_of o).parts 0 0 in if nat_lt n 65536 && owner_eq o (placed n) then Some n else None

-- the number of an owner, 0 for one that was not given any
abbrev pub number_at : OwnerNumbers → Owner → ℕ
number_at t o = option_map_or (λ i. slice_index_or t.listed.items i 0) (place_of o) (option_map_or (λ n. n) (get OwnerImpl.ghosts.eq t.others o) 0)
