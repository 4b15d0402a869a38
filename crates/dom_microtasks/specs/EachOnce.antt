-- Lists in which each number is there once.
use Rattle.std.specs.Prelude.{◌≡◌, ℕ, nat_eq, List, []}
use Rattle.indexmap.specs.IndexSet.{insert_all}

-- put into a set one after another, the numbers are those of the list
abbrev pub IsEachOnce : List ℕ → Type 0
IsEachOnce ns = insert_all nat_eq [] ns ≡ ns
