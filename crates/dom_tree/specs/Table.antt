-- The keys of each owner's nodes, as their table holds them.
use Rattle.std.specs.Prelude.{◌≡◌, ℕ, ◌<◌, List, [], Option, None, Some, Vec, slice_get, MatchOption}
use Rattle.std.specs.Global.{Global}
use Rattle.indexmap.specs.IndexMap.{get}
use Rattle.std.specs.Vec.{vec_len, vec_capacity}
use Rattle.std.specs.Option.{option_map_or}
use Rattle.dom_base.specs.declared.Owner.{Owner}
use Rattle.dom_base.specs.declared.Owner.TheVariants.{Page, Component}
use Rattle.dom_base.specs.contracts.OwnerPartialEq.TheImpl as OwnerImpl
use Rattle.node_arena.specs.declared.key.Key.{Key}
use Rattle.dom_tree.specs.declared.table.KeyTable.{KeyTable}
use Rattle.dom_tree.specs.PageKeys.{page_keys}
use Rattle.dom_tree.specs.PageKeys as page

-- an owner's keys, in the order of their nodes' numbers
abbrev pub keys_of : KeyTable → Owner → List ℕ
keys_of t Page = page_keys t.page
keys_of t (Component k) = option_map_or (λ v. v.items) (get OwnerImpl.ghosts.eq t.components (Component k)) []

-- there is room for one key more of an owner
abbrev pub HasRoom : KeyTable → Owner → Type 0
HasRoom t Page = page.HasRoom t.page
HasRoom t (Component k) = MatchOption (get OwnerImpl.ghosts.eq t.components (Component k)) ⊥ (λ v. vec_len v < vec_capacity v)

-- an owner's list stands at this place among those of the components, or the owner has none
abbrev pub StandsAt : KeyTable → Owner → Option ℕ → Type 0
StandsAt t o None = get OwnerImpl.ghosts.eq t.components o ≡ None
StandsAt t o (Some i) = (v : Vec Key Global) × (slice_get t.components.entries i ≡ Some (o, v)) × (get OwnerImpl.ghosts.eq t.components o ≡ Some v)
