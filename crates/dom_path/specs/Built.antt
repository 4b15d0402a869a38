-- How the items of a path are built, by the trees and the hosts alone.
use Rattle.std.specs.Prelude.{◌≡◌, ℕ, ◌<◌, nat_eq, Bool, true, false, List, [], ◌∷◌, length, Option, Some, None, option_map}
use Rattle.std.specs.Option.{ForSome}
use Rattle.dom_base.specs.declared.NodeName.{NodeName}
use Rattle.dom_model.specs.Tree.{is_shadow, node_in}
use Rattle.dom_tree.specs.Forest.{NamedTrees, name_at}
use Rattle.dom_slots.specs.Hosts.{ShadowHost}
use Rattle.dom_slots.specs.Shadows.{shadows, is_assigned_at}
use Rattle.dom_path.specs.declared.item.Item.{Item}
use Rattle.dom_path.specs.declared.path_node.PathNode.{PathNode}
use Rattle.dom_path.specs.declared.trees.Tree.{Tree}
use Rattle.dom_path.specs.Hosted.{IsHosted}
use Rattle.dom_path.specs.PathNodes.{IsPathNode, IsTreeOf, key_if}
use Rattle.dom_path.specs.Ways.{is_empty_at, next_at, seen_at, related_at}

-- the target and the related node have their places, the target in its own tree, and no slot was entered at the target
pub record IsEvent (f : NamedTrees) (hosts : List ShadowHost) (trees : List Tree) (target : PathNode) (related : Option PathNode) : Type 0 where
  pub at_target : IsPathNode f hosts trees target
  pub at_related : ForSome related (IsPathNode f hosts trees)
  pub root : IsTreeOf f trees target.tree (name_at f.names target.node)
  pub begins : target.is_entered ≡ false

-- the name of a related node by its place
abbrev pub related_name : List NodeName → Option PathNode → Option NodeName
related_name names related = option_map (λ (a : PathNode). name_at names a.node) related

module _ (f : NamedTrees) (hosts : List ShadowHost) (target : NodeName) (related : Option NodeName) where
  -- an item of a node shows there what is seen in place of the target and of the related node
  pub record IsShownAt (depth : ℕ) (trees : List Tree) (i : Item) : Type 0 where
    pub in_tree : IsTreeOf f trees i.tree (name_at f.names i.node)
    pub target_seen : name_at f.names i.event_target ≡ seen_at (shadows f hosts) depth (name_at f.names i.node) target
    pub related_seen : option_map (name_at f.names) i.related ≡ related_at (shadows f hosts) depth (name_at f.names i.node) related

  -- an item of a path
  pub record IsItemOf (trees : List Tree) (i : Item) : Type 0 where
    pub node : i.node < length f.names
    pub within : i.tree < length trees
    pub target_node : i.event_target < length f.names
    pub related_node : ForSome i.related (λ k. k < length f.names)
    pub at_target : i.target ≡ key_if (nat_eq i.node i.event_target) i.node
    pub shadow : i.root_of_closed ≡ is_shadow (node_in f.trees (name_at f.names i.node)).kind
    pub shown : (depth : ℕ) → IsHosted f hosts depth → IsShownAt depth trees i

  module _ (depth : ℕ) where
    -- the node behind x on the path
    abbrev pub next_name : Bool → NodeName → Option NodeName
    next_name composed x = next_at (shadows f hosts) depth target related composed x

    -- each item is that of the node behind the one before, the first of these being behind x, and behind the last there is none
    abbrev pub GoesOn : Bool → NodeName → List Item → Type 0
    GoesOn composed x [] = next_name composed x ≡ None
    GoesOn composed x (i ∷ rest) =
        (next_name composed x ≡ Some (name_at f.names i.node)) × (i.slot_in_closed ≡ is_assigned_at (shadows f hosts) (name_at f.names i.node) x)
        × GoesOn composed (name_at f.names i.node) rest

    -- the first item is the target's, and no slot was entered there
    abbrev pub IsWay : Bool → List Item → Type 0
    IsWay composed [] = ⊥
    IsWay composed (i ∷ rest) = (name_at f.names i.node ≡ target) × (i.slot_in_closed ≡ false) × GoesOn composed (name_at f.names i.node) rest

    -- and so it is, unless the path has no node
    abbrev pub IsBuilt : Bool → List Item → Type 0
    IsBuilt composed [] = is_empty_at (shadows f hosts) depth target related ≡ true
    IsBuilt composed (i ∷ rest) = (is_empty_at (shadows f hosts) depth target related ≡ false) × IsWay composed (i ∷ rest)
