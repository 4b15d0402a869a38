-- The slots of nodes, of which the first one stands in line.
use Rattle.std.specs.Prelude.{ℕ, zero, suc, List, [], ◌∷◌, ◌++◌, Vec, slice_index_or}
use Rattle.dom_slots.specs.KeyMaps.{list_at}
use Rattle.dom_slots.specs.declared.node_slots.NodeSlots.{NodeSlots}

-- the slot that stands in line: none where there is the default
abbrev pub in_line : ℕ → List ℕ
in_line zero = []
in_line (suc n) = suc n ∷ []

-- the slots of a node, from those in line and the lists of the others
abbrev pub slots_at : {A : Type 0} → List ℕ → List (Vec ℕ A) → ℕ → List ℕ
slots_at first rest k = in_line (slice_index_or first k 0) ++ list_at rest k

-- the same of what the code keeps
abbrev pub slots_in : NodeSlots → ℕ → List ℕ
slots_in s k = slots_at s.first.items s.rest.rows.items k
