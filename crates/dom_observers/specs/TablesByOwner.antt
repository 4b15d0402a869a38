-- What a contract sees of `Observers`: the tables of all owners that have some.
use Rattle.std.specs.Prelude.{ℕ, List}
use Rattle.dom_base.specs.declared.Owner.{Owner}
use Rattle.dom_observers.specs.Tables.{TablesOf}

-- each owner that has tables, with them (own rule)
abbrev pub TablesByOwner : Type 0
TablesByOwner = List (Owner × TablesOf ℕ)
