-- Each owner's iterators and walkers.
use Rattle.std.specs.Prelude.{List, unwrap_or, if◌then◌else◌}
use Rattle.std.specs.Map.{lookup}
use Rattle.dom_base.specs.declared.Owner.{Owner}
use Rattle.dom_model.specs.Names.{owner_eq}
use Rattle.dom_traversal.specs.OwnTables.{KeyedTables, no_keyed_tables}

-- those that have had a cursor, each with all its cursors
abbrev pub AllCursors : Type 0
AllCursors = List (Owner × KeyedTables)

-- an owner's cursors
abbrev pub cursors_of : AllCursors → Owner → KeyedTables
cursors_of all o = unwrap_or (lookup (owner_eq o) all) no_keyed_tables

-- all owners' cursors, where one owner's are these
abbrev pub with_cursors : (Owner → KeyedTables) → Owner → KeyedTables → Owner → KeyedTables
with_cursors each o t p = if owner_eq o p then t else each p
