-- How the lists of a table stand for what a contract sees of it.
use Rattle.std.specs.Prelude.{◌≡◌, ℕ, suc, List, [], ◌∷◌, nat_eq, Vec}
use Rattle.dom_model.specs.Names.{is_in}
use Rattle.dom_slots.specs.KeyMaps.{list_at}
use Rattle.dom_slots.specs.NodeSlots.{slots_at}
use Rattle.dom_slots.specs.Tables.{SlotTable}

-- the table of lists that stand by the numbers of their slots, from a number on, and from 0 on
abbrev pub table_from : {A : Type 0} → ℕ → List (Vec ℕ A) → SlotTable
table_from i [] = []
table_from i (v ∷ rows) = (i, v.items) ∷ table_from (suc i) rows

abbrev pub table_in : {A : Type 0} → List (Vec ℕ A) → SlotTable
table_in rows = table_from 0 rows

-- a node has just those slots by the other lists in whose lists it stands
abbrev pub SlotsAgree : {A B : Type 0} → List (Vec ℕ A) → List ℕ → List (Vec ℕ B) → Type 0
SlotsAgree lists first rest = (k s : ℕ) → is_in nat_eq s (slots_at first rest k) ≡ is_in nat_eq k (list_at lists s)
