-- The table of a `Slots`: which nodes are assigned to each slot.
use Rattle.std.specs.Prelude.{◌≡◌, ℕ, ◌<◌, ◌≤◌, nat_eq, List, [], map, length, All, unwrap_or}
use Rattle.std.specs.Map.{lookup}
use Rattle.dom_tree.specs.Forest.{NamedTrees, name_at}
use Rattle.dom_slots.specs.Hosts.{ShadowHost}
use Rattle.dom_slots.specs.Shadows.{shadows, assigned_at}

-- lists of nodes by slots
abbrev pub SlotTable : Type 0
SlotTable = List (ℕ × List ℕ)

-- the list of a slot; a node without a list has none
abbrev pub list_of : SlotTable → ℕ → List ℕ
list_of table slot = unwrap_or (lookup (nat_eq slot) table) []

-- a table has of each node just what is assigned to it in a forest with hosts (DOM Standard, concept: assigned nodes)
pub record IsTableOf (f : NamedTrees) (hosts : List ShadowHost) (table : SlotTable) : Type 0 where
  pub nodes : (k : ℕ) → All (λ j. j < length f.names) (list_of table k)
  pub lists : (k : ℕ) → k < length f.names → map (name_at f.names) (list_of table k) ≡ assigned_at (shadows f hosts) (name_at f.names k)
  pub beyond : (k : ℕ) → length f.names ≤ k → list_of table k ≡ []
