-- What a contract sees of a `Slots`.
use Rattle.std.specs.Prelude.{◌≡◌, ◌≢◌, ℕ, ◌<◌, Bool, true, false, count_by, slice_get, List, [], ◌∷◌, ◌++◌, length, Option, Some, option_map}
use Rattle.std.specs.Option.{ForSome}
use Rattle.dom_base.specs.declared.NodeName.{NodeName}
use Rattle.dom_model.specs.Names.{name_eq}
use Rattle.dom_model.specs.Slots.{is_slot_element}
use Rattle.dom_model.specs.Tree.{Trees, Node, nodes, node_in, root_of, has_node}
use Rattle.dom_model.specs.TreeChanges.{with_node}
use Rattle.dom_tree.specs.Forest.{NamedTrees, name_at}
use Rattle.dom_slots.specs.declared.step.SlotChange.{SlotChange}
use Rattle.dom_slots.specs.Hosts.{ShadowHost, HostsAreNodes}
use Rattle.dom_slots.specs.Index.{Bearers, AreIndexed}
use Rattle.dom_slots.specs.KeyMaps.{is_marked}
use Rattle.dom_slots.specs.Parked.{ParkedNow, IsParked}
use Rattle.dom_slots.specs.Shadows.{shadows, slot_at}
use Rattle.dom_slots.specs.Steps.{step_node, left_by, StepHasNodes, IsStepFrom}
use Rattle.dom_slots.specs.Tables.{SlotTable, IsTableOf}

-- the hosts, in the order of attaching, the nodes assigned to each slot, marks of roots whose trees have no slot, which slots may have
-- names in the trees of roots, and the list of a slot that a step took out of its tree
pub record SlotsNow : Type 0 where
  pub hosts : List ShadowHost
  pub table : SlotTable
  pub bare : List Bool
  pub index : Bearers
  pub parked : Option ParkedNow

-- what saves walks
abbrev pub Hints : Type 0
Hints = List Bool × Bearers × Option ParkedNow

abbrev pub hints_of : SlotsNow → Hints
hints_of s = (s.bare, s.index, s.parked)

-- the same hosts and lists with other ones
abbrev pub with_hints : Hints → SlotsNow → SlotsNow
with_hints h s = record { hosts = s.hosts; table = s.table; bare = h.0; index = h.1; parked = h.2 }

abbrev pub with_parked : Option ParkedNow → SlotsNow → SlotsNow
with_parked p s = with_hints (s.bare, s.index, p) s

-- the nodes of a forest stand in its trees, each once, and no others: what a forest's `law_nodes_stand_once` says
pub record StandsOnce (f : NamedTrees) : Type 0 where
  pub once : (k : ℕ) → k < length f.names → count_by (λ n. name_eq n.name (name_at f.names k)) (nodes f.trees) ≡ 1
  pub only : (x : NodeName) → has_node f.trees x ≡ true → (k : ℕ) × (slice_get f.names k ≡ Some x)

-- a forest with a node more, which was just added and stands alone in its tree: what a forest's `add` says, and
-- `law_nodes_stand_once` of the forest with it
pub record HasOneMore (f g : NamedTrees) (n : Node) : Type 0 where
  pub names : g.names ≡ f.names ++ n.name ∷ []
  pub trees : g.trees ≡ with_node n f.trees
  pub distinct : (j k : ℕ) → j < length g.names → k < length g.names → name_at g.names j ≡ name_at g.names k → j ≡ k
  pub stands : StandsOnce g

-- there is a host, and no slot stands in the tree of a root, which is a node
pub record IsBare (f : NamedTrees) (hosts : List ShadowHost) (r : ℕ) : Type 0 where
  pub hosted : hosts ≢ []
  pub node : r < length f.names
  pub slots : (k : ℕ) → k < length f.names → root_of f.trees (name_at f.names k) ≡ name_at f.names r →
      is_slot_element (node_in f.trees (name_at f.names k)) ≡ false

-- so it is of each root that is marked
abbrev pub AreBare : NamedTrees → List ShadowHost → List Bool → Type 0
AreBare f hosts marks = (r : ℕ) → is_marked marks r ≡ true → IsBare f hosts r

-- the slots of a forest
pub record AreSlotsOf (f : NamedTrees) (s : SlotsNow) : Type 0 where
  pub hosts : HostsAreNodes f.names s.hosts
  pub table : IsTableOf f s.hosts s.table
  pub bare : AreBare f s.hosts s.bare
  pub index : AreIndexed f s.hosts s.index
  pub parked : ForSome s.parked (IsParked f s.hosts)

-- what is known of a step that is about to be done: the parent that a node has which it moves, and the slot that its node has
pub record IsBegun (f : NamedTrees) (hosts : List ShadowHost) (c : SlotChange) : Type 0 where
  pub stands : StandsOnce f
  pub left : option_map (name_at f.names) c.left ≡ left_by f.names f.trees c.step
  pub left_node : ForSome c.left (λ k. k < length f.names)
  pub slot : option_map (name_at f.names) c.slot ≡ slot_at (shadows f hosts) (name_at f.names (step_node c.step))
  pub slot_node : ForSome c.slot (λ k. k < length f.names)

-- a step was begun when the trees of a forest were others, and this step alone made them what they are
pub record IsEndOf (was : Trees) (f : NamedTrees) (s : SlotsNow) (c : SlotChange) : Type 0 where
  pub begun : IsBegun record { names = f.names; trees = was } s.hosts c
  pub nodes : StepHasNodes f.names c.step
  pub step : IsStepFrom f.names was f.trees c.step
  pub slots : AreSlotsOf record { names = f.names; trees = was } s
