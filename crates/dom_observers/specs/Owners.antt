-- Each owner's tables.
use Rattle.std.specs.Prelude.{◌≡◌, ℕ, ◌∷◌, map, unwrap_or, if◌then◌else◌}
use Rattle.std.specs.Map.{lookup}
use Rattle.dom_base.specs.declared.Owner.{Owner}
use Rattle.dom_base.specs.declared.Owner.TheVariants.{Page}
use Rattle.dom_model.specs.Names.{owner_eq}
use Rattle.dom_observers.specs.declared.observers.Observers.TheInside.{Inside}
use Rattle.dom_observers.specs.Tables.{TablesOf, no_tables}
use Rattle.dom_observers.specs.TableView.{table_of}
use Rattle.dom_observers.specs.TablesByOwner.{TablesByOwner}

-- an owner's tables; one that has none reads as one that has nothing
abbrev pub tables_of : TablesByOwner → Owner → TablesOf ℕ
tables_of all o = unwrap_or (lookup (owner_eq o) all) no_tables

-- what the code holds of them: the page's, and those of the components that have had an observer
abbrev pub all_tables : Inside → TablesByOwner
all_tables o = (Page, table_of o.tables.page) ∷ map (λ e. (e.0, table_of e.1)) o.tables.components.entries

-- one owner's tables are new, and each other owner's as they were
abbrev pub ChangesTables : Owner → TablesOf ℕ → TablesByOwner → TablesByOwner → Type 0
ChangesTables o t old new = (p : Owner) → tables_of new p ≡ (if owner_eq o p then t else tables_of old p)

-- each owner's tables are as they were
abbrev pub KeepsTables : TablesByOwner → TablesByOwner → Type 0
KeepsTables old new = (p : Owner) → tables_of new p ≡ tables_of old p
