-- The list of a slot that a step took out of its tree.
use Rattle.std.specs.Prelude.{◌≡◌, ◌≢◌, ℕ, ◌<◌, List, [], All, filter, length, map, Some}
use Rattle.dom_base.specs.declared.NodeName.{NodeName}
use Rattle.dom_model.specs.Slots.{slot_name}
use Rattle.dom_model.specs.Tree.{Trees, node_in, parent_of, children_of}
use Rattle.dom_tree.specs.Forest.{NamedTrees, name_at}
use Rattle.dom_slots.specs.Hosts.{ShadowHost}
use Rattle.dom_slots.specs.Shadows.{looks_for}

-- a slot with a host, and a list of nodes
pub record ParkedNow : Type 0 where
  pub slot : ℕ
  pub host : ℕ
  pub list : List ℕ

-- there are hosts, and the list has the children of this one that look for the name of the slot
pub record IsParked (f : NamedTrees) (hosts : List ShadowHost) (p : ParkedNow) : Type 0 where
  pub hosted : hosts ≢ []
  pub slot : p.slot < length f.names
  pub host : p.host < length f.names
  pub nodes : All (λ k. k < length f.names) p.list
  pub list : map (name_at f.names) p.list ≡ filter (λ y. looks_for (slot_name (node_in f.trees (name_at f.names p.slot))) (node_in f.trees y))
      (children_of f.trees (name_at f.names p.host))

-- a node is no child of a host in the first trees, and none in the second
abbrev pub IsBeside : Trees → Trees → NodeName → NodeName → Type 0
IsBeside was now x h = (parent_of was x ≢ Some h) × (parent_of now x ≢ Some h)
