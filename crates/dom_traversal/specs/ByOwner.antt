-- The tables of each owner, as the code holds them.
use Rattle.std.specs.Prelude.{◌≡◌, Option, Some, IsSome, ◌∷◌, unwrap_or, if◌then◌else◌}
use Rattle.std.specs.Borrow.{LendsSo, MutBor, Fml}
use Rattle.std.specs.HashMap.{get}
use Rattle.dom_base.specs.declared.Owner.{Owner}
use Rattle.dom_base.specs.declared.Owner.TheVariants.{Page, Component}
use Rattle.dom_base.specs.contracts.OwnerPartialEq.TheImpl as OwnerImpl
use Rattle.dom_model.specs.Names.{owner_eq}
use Rattle.dom_traversal.specs.contracts.by_owner.ByOwner.{the_row}
use Rattle.dom_traversal.specs.contracts.tables.OwnTables.{the_row as TablesRow}
use Rattle.dom_traversal.specs.declared.by_owner.ByOwner.{ByOwner}
use Rattle.dom_traversal.specs.Cursors.{AllCursors}
use Rattle.dom_traversal.specs.OwnTables.{KeyedTables, no_keyed_tables}

-- an owner's tables: the page has some, and a component has those of the map
abbrev pub table_at : ByOwner → Owner → Option KeyedTables
table_at t Page = Some t.page
table_at t (Component k) = get OwnerImpl.ghosts.eq t.components (Component k)

-- the same of one that has none reads as no cursors
abbrev pub cursors_in : ByOwner → Owner → KeyedTables
cursors_in t o = unwrap_or (table_at t o) no_keyed_tables

-- the page and the components that have had a cursor, each with its tables
abbrev pub entries_of : ByOwner → AllCursors
entries_of t = (Page, t.page) ∷ t.components.entries

-- where an owner has tables, they are new, and each other owner's as they were
abbrev pub Writes : ByOwner → Owner → ByOwner → KeyedTables → Type 0
Writes was o now t = IsSome (table_at was o) → (p : Owner) → table_at now p ≡ (if owner_eq o p then Some t else table_at was p)

-- what is written through a reference to an owner's tables becomes its tables
abbrev pub lends_table : MutBor ByOwner → Owner → Option (MutBor KeyedTables) → Fml
lends_table s o r = LendsSo the_row TablesRow s r (Writes s.now o) (λ now. now ≡ s.now)
