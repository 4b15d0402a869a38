-- The lines that tell of records.
use Rattle.std.specs.Prelude.{ℕ, List, map, flat_map, Vec}
use Rattle.std.specs.List.{AllByRecursion}
use Rattle.dom_base.specs.declared.NodeName.{NodeName}
use Rattle.dom_base.specs.declared.Owner.{Owner}
use Rattle.dom_model.specs.Output.{Output, says, recorded}
use Rattle.dom_observers.specs.declared.change.Change.{Change}
use Rattle.dom_observers.specs.Naming.{named_change, IsKey, IsChangeAt}
use Rattle.dom_observers.specs.Views.{change_of}
use Rattle.dom_tree.specs.Forest.{name_at}

-- a record tells of nodes (own rule)
abbrev pub IsRecord : List NodeName → Change → Type 0
IsRecord names r = IsChangeAt (IsKey names) (change_of r)

-- the records of a notification of an observer tell of nodes
abbrev pub IsNotice : {Z : Type 0} → List NodeName → ℕ × Vec Change Z → Type 0
IsNotice names n = AllByRecursion (IsRecord names) n.1.items

-- the line of a record of an owner's observer (own rule)
abbrev pub record_line : List NodeName → Owner → ℕ → Change → Output
record_line names o k r = says o (recorded k (named_change (name_at names) (change_of r)))

-- the lines of an observer's records
abbrev pub record_lines : List NodeName → Owner → ℕ → List Change → List Output
record_lines names o k rs = map (record_line names o k) rs

-- the lines of a notification
abbrev pub notice_lines : {Z : Type 0} → List NodeName → Owner → List (ℕ × Vec Change Z) → List Output
notice_lines names o ns = flat_map (λ n. record_lines names o n.0 n.1.items) ns
