-- Slots whose lists are renewed one after another.
use Rattle.std.specs.Prelude.{◌≡◌, ℕ, ◌<◌, ◌≤◌, nat_eq, Bool, true, false, not, List, [], ◌++◌, All, map, filter, fold, length, Option, Some, option_map}
use Rattle.dom_base.specs.declared.NodeName.{NodeName}
use Rattle.dom_model.specs.Names.{name_eq, list_eq, is_in, append_once}
use Rattle.dom_tree.specs.Forest.{NamedTrees, name_at}
use Rattle.dom_slots.specs.Hosts.{ShadowHost}
use Rattle.dom_slots.specs.Shadows.{shadows, slot_at, assigned_at}
use Rattle.dom_slots.specs.Steps.{step_node, is_move}
use Rattle.dom_slots.specs.declared.step.Step.{Step}
use Rattle.dom_slots.specs.Tables.{SlotTable, list_of}

-- Of an old table the lists of the slots `done` were renewed by a forest, and all others are as they were. The keys are those
-- of the names `told`, each once, and of the renewed slots all with other nodes than before are among them: p tells which.
pub record AreRenewed (f : NamedTrees) (hosts : List ShadowHost) (p : NodeName → Bool) (old : SlotTable) (done told : List NodeName)
    (table : SlotTable) (keys : List ℕ) : Type 0 where
  pub others : (k : ℕ) → k < length f.names →
      p (name_at f.names k) ≡ not (list_eq name_eq (map (name_at f.names) (list_of old k)) (assigned_at (shadows f hosts) (name_at f.names k)))
  pub renewed : (k : ℕ) → k < length f.names → is_in name_eq (name_at f.names k) done ≡ true →
      map (name_at f.names) (list_of table k) ≡ assigned_at (shadows f hosts) (name_at f.names k)
  pub kept : (k : ℕ) → k < length f.names → is_in name_eq (name_at f.names k) done ≡ false → list_of table k ≡ list_of old k
  pub nodes : (k : ℕ) → All (λ j. j < length f.names) (list_of table k)
  pub beyond : (k : ℕ) → length f.names ≤ k → list_of table k ≡ []
  pub keys_nodes : All (λ k. k < length f.names) keys
  pub keys_are : map (name_at f.names) keys ≡ fold (append_once name_eq) [] told
  pub among : (y : NodeName) → is_in name_eq y done ≡ true → p y ≡ true → is_in name_eq y told ≡ true

-- from a table and keys to others these slots were renewed, whichever were renewed before
abbrev pub Renews : NamedTrees → List ShadowHost → List NodeName → SlotTable → List ℕ → SlotTable → List ℕ → Type 0
Renews f hosts slots table keys new next = (p : NodeName → Bool) (old : SlotTable) (done told : List NodeName) →
    AreRenewed f hosts p old done told table keys → AreRenewed f hosts p old (done ++ slots) (told ++ filter p slots) new next

-- names without one
abbrev pub names_but : NodeName → List NodeName → List NodeName
names_but x ys = filter (λ y. not (name_eq x y)) ys

-- The lists of a table are those of a forest but for the node of a step: they have all other nodes that they should have, in
-- their order; the node itself stands in the list of its old slot alone; and where it was not moved and has the slot that it
-- had, no list is another one.
pub record IsButFor (f : NamedTrees) (hosts : List ShadowHost) (table : SlotTable) (slot : Option ℕ) (step : Step) : Type 0 where
  pub others : (k : ℕ) → k < length f.names →
      names_but (name_at f.names (step_node step)) (map (name_at f.names) (list_of table k)) ≡ names_but (name_at f.names (step_node step))
      (assigned_at (shadows f hosts) (name_at f.names k))
  pub listed : (k : ℕ) → k < length f.names → is_in nat_eq (step_node step) (list_of table k) ≡ true → slot ≡ Some k
  pub stays : is_move step ≡ false → option_map (name_at f.names) slot ≡ slot_at (shadows f hosts) (name_at f.names (step_node step)) → (k : ℕ) →
      k < length f.names
      → map (name_at f.names) (list_of table k) ≡ assigned_at (shadows f hosts) (name_at f.names k)
