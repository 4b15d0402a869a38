-- The table of each owner, as the code holds it.
use Rattle.std.specs.Prelude.{◌≡◌, ℕ, Option, Some, IsSome, if◌then◌else◌}
use Rattle.std.specs.Borrow.{LendsSo, MutBor, Fml}
use Rattle.std.specs.HashMap.{get}
use Rattle.std.specs.Option.{option_map_or}
use Rattle.dom_base.specs.declared.Owner.{Owner}
use Rattle.dom_base.specs.declared.Owner.TheVariants.{Page, Component}
use Rattle.dom_base.specs.contracts.OwnerPartialEq.TheImpl as OwnerImpl
use Rattle.dom_model.specs.Names.{owner_eq}
use Rattle.dom_observers.specs.contracts.by_owner.ByOwner.{the_row}
use Rattle.dom_observers.specs.contracts.table.Table.{the_row as TableRow}
use Rattle.dom_observers.specs.declared.by_owner.ByOwner.{ByOwner}
use Rattle.dom_observers.specs.declared.table.Table.{Table}
use Rattle.dom_observers.specs.TableView.{table_of}
use Rattle.dom_observers.specs.Tables.{TablesOf, no_tables}

-- an owner's table: the page has one, and a component has that of the map
abbrev pub table_at : ByOwner → Owner → Option Table
table_at t Page = Some t.page
table_at t (Component k) = get OwnerImpl.ghosts.eq t.components (Component k)

-- what is in it; an owner that has none reads as one that has nothing
abbrev pub tables_in : ByOwner → Owner → TablesOf ℕ
tables_in t o = option_map_or table_of (table_at t o) no_tables

-- where an owner has a table, it is new, and each other owner's as it was
abbrev pub Writes : ByOwner → Owner → ByOwner → Table → Type 0
Writes was o now t = IsSome (table_at was o) → (p : Owner) → table_at now p ≡ (if owner_eq o p then Some t else table_at was p)

-- what is written through a reference to an owner's table becomes its table
abbrev pub lends_table : MutBor ByOwner → Owner → Option (MutBor Table) → Fml
lends_table s o r = LendsSo the_row TableRow s r (Writes s.now o) (λ now. now ≡ s.now)
