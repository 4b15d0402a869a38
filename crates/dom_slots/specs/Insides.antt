-- What a step inside of a shadow tree renews and signals.
use Rattle.std.specs.Prelude.{◌≡◌, ◌⊎◌, ℕ, ◌<◌, Bool, true, false, ◌&&◌, List, [], ◌∷◌, ◌++◌, filter, map, length, All}
use Rattle.std.specs.Prelude.{Option, None, Some, option_map, option_to_list, if◌then◌else◌}
use Rattle.std.specs.Option.{option_map_or}
use Rattle.dom_base.specs.declared.NodeName.{NodeName}
use Rattle.dom_model.specs.Names.{DomString, text_eq, name_eq, is_in}
use Rattle.dom_model.specs.Slots.{is_slot_element, slot_name, slots_among}
use Rattle.dom_model.specs.Tree.{Trees, node_in, root_of, subtree}
use Rattle.dom_tree.specs.Forest.{NamedTrees, name_at}
use Rattle.dom_slots.specs.Hosts.{ShadowHost}
use Rattle.dom_slots.specs.Renewals.{AreRenewed}
use Rattle.dom_slots.specs.Shadows.{shadows, slot_at, is_bare_at, assigned_at}
use Rattle.dom_slots.specs.Steps.{step_node, is_apart, is_move, around_of, left_behind}
use Rattle.dom_slots.specs.Tables.{SlotTable, list_of}
use Rattle.dom_slots.specs.declared.slots.bare.Moved.{Moved}
use Rattle.dom_slots.specs.declared.slots.bare.Moved.TheVariants.{NoSlot, Apart, Slots}
use Rattle.dom_slots.specs.declared.step.SlotChange.{SlotChange}
use Rattle.dom_slots.specs.declared.step.Step.{Step}

-- whether a slot is of a name, if there is one
abbrev pub is_called : Trees → Option DomString → NodeName → Bool
is_called ts name y = option_map_or (λ a. text_eq (slot_name (node_in ts y)) a) name true

-- whether a node is a slot of a name, if there is one
abbrev pub is_slot_called : Trees → Option DomString → NodeName → Bool
is_slot_called ts name y = is_slot_element (node_in ts y) && is_called ts name y

-- where there is a name, a step moves slots, and of that name alone
abbrev pub MovesCalled : NamedTrees → Step → Option DomString → Type 0
MovesCalled f step name = (y : NodeName) → is_called f.trees name y ≡ false → (is_move step ≡ true) × ((z : NodeName) →
    is_in name_eq z (slots_among (subtree f.trees (name_at f.names (step_node step)))) ≡ true → is_called f.trees name z ≡ true)

-- whether it is known that no slot was moved or changed
abbrev pub is_nothing : Moved → Bool
is_nothing NoSlot = true
is_nothing Apart = false
is_nothing (Slots v) = false

-- the slots of the tree in which a node stands
abbrev pub tree_slots : Trees → NodeName → List NodeName
tree_slots ts y = slots_among (subtree ts (root_of ts y))

module _ (f : NamedTrees) (hosts : List ShadowHost) where
  -- the slot that a step's node had, and the one that it has
  abbrev pub own_slots : Option ℕ → Step → List NodeName
  own_slots slot step = option_to_list (option_map (name_at f.names) slot) ++ option_to_list (slot_at (shadows f hosts) (name_at f.names (step_node step)))

  -- the node around, where a child was placed or removed and it is a slot without assigned nodes
  abbrev pub bare_around : Step → NodeName → List NodeName
  bare_around step around = if is_move step && is_bare_at (shadows f hosts) around then around ∷ [] else []

  -- the slots of the tree around and of the tree of the step's node
  abbrev pub slots_around : Step → NodeName → List NodeName
  slots_around step around = tree_slots f.trees around ++ slots_among (subtree f.trees (name_at f.names (step_node step)))

  -- the slots of the tree that a placed node left
  abbrev pub left_slots : Step → Option ℕ → List NodeName
  left_slots step left = option_map_or (λ k. tree_slots f.trees (name_at f.names k)) (left_behind step left) []

  -- a step moves no slot, and changes no slot's attributes
  abbrev pub MovesNone : Step → Type 0
  MovesNone step = (slots_among (subtree f.trees (name_at f.names (step_node step))) ≡ []) ⊎
      ((is_move step ≡ false) × (is_slot_element (node_in f.trees (name_at f.names (step_node step))) ≡ false))

  -- what is known of a step holds: it moves no slot; or it was made outside of shadow trees; or these are the slots that it moves,
  -- or those below a slot whose attributes it changes
  abbrev pub IsMoved : SlotChange → Moved → Type 0
  IsMoved c NoSlot = MovesNone c.step
  IsMoved c Apart = is_apart (shadows f hosts) (name_at f.names (step_node c.step)) (option_map (name_at f.names) c.left) ≡ true
  IsMoved c (Slots v) = (map (name_at f.names) v.items ≡ slots_among (subtree f.trees (name_at f.names (step_node c.step)))) ×
      All (λ k. k < length f.names) v.items

  -- the lists of slots are right in a table
  abbrev pub AreRight : List NodeName → SlotTable → Type 0
  AreRight slots table =
      (k : ℕ) → k < length f.names → is_in name_eq (name_at f.names k) slots ≡ true → map (name_at f.names) (list_of table k) ≡ assigned_at
      (shadows f hosts) (name_at f.names k)

  -- from a table to another one the lists of slots are renewed, whoever is signalled
  abbrev pub AreSilent : List NodeName → SlotTable → SlotTable → Type 0
  AreSilent slots old table = (q : NodeName → Bool) → AreRenewed f hosts q old [] [] old [] → (keys : List ℕ) ×
      AreRenewed f hosts q old slots (filter q slots) table keys

  -- the lists of the slots around were renewed, and behind them without a signal those of the tree that was left; those of a name
  -- alone, where slots of that name alone were moved
  abbrev pub AreMoved : (NodeName → Bool) → SlotTable → List NodeName → List NodeName → Step → Option ℕ → NodeName → SlotTable → List ℕ → Type 0
  AreMoved p old done told step left around table keys =
      (name : Option DomString) × MovesCalled f step name × (mid : SlotTable) ×
      AreRenewed f hosts p old (done ++ filter (is_called f.trees name) (slots_around step around))
      (told ++ filter p (filter (is_called f.trees name) (slots_around step around))) mid keys ×
      AreSilent (filter (is_called f.trees name) (left_slots step left)) mid table

  -- so it is, or no slot was moved and nothing more was renewed
  abbrev pub MayMove : (NodeName → Bool) → SlotTable → List NodeName → List NodeName → Step → Option ℕ → NodeName → SlotTable → List ℕ → Type 0
  MayMove p old done told step left around table keys = (MovesNone step × AreRenewed f hosts p old done told table keys) ⊎
      AreMoved p old done told step left around table keys

  -- a step inside of a shadow tree, which left this parent if one, renewed and signalled what it concerns around a node, if
  -- there is one
  pub record IsInside (p : NodeName → Bool) (old : SlotTable) (step : Step) (left slot : Option ℕ) (table : SlotTable) (keys : List ℕ) : Type 0 where
    pub alone : around_of step left ≡ None → AreRenewed f hosts p old (own_slots slot step) (filter p (own_slots slot step)) table keys
    pub around : (k : ℕ) → around_of step left ≡ Some k
        → MayMove p old (own_slots slot step) (filter p (own_slots slot step) ++ bare_around step (name_at f.names k)) step left (name_at f.names k) table keys
