-- What the code keeps of a node of a path: its place, by keys.
use Rattle.std.specs.Prelude.{◌≡◌, ℕ, ◌<◌, nat_eq, Bool, not, ◌&&◌, List, length, map, filter, slice_get, Option, Some, None, option_map, is_some}
use Rattle.std.specs.Prelude.{if◌then◌else◌}
use Rattle.std.specs.Option.{ForSome, option_eq}
use Rattle.dom_base.specs.declared.NodeName.{NodeName}
use Rattle.dom_model.specs.Paths.{View}
use Rattle.dom_model.specs.Tree.{is_shadow, node_in, root_of}
use Rattle.dom_tree.specs.Forest.{NamedTrees, name_at}
use Rattle.dom_slots.specs.Hosts.{ShadowHost, host_named, root_named}
use Rattle.dom_path.specs.declared.item.Item.{Item}
use Rattle.dom_path.specs.declared.path_node.SlotBelow.{SlotBelow}
use Rattle.dom_path.specs.declared.path_node.PathNode.{PathNode}
use Rattle.dom_path.specs.declared.trees.Tree.{Tree}
use Rattle.dom_path.specs.Hosted.{IsHosted}
use Rattle.dom_path.specs.Nests.{AreNested, hiding_host, seen_from}

module _ (f : NamedTrees) where
  -- the tree at a place is that of a node
  abbrev pub IsTreeOf : List Tree → ℕ → NodeName → Type 0
  IsTreeOf trees place x = option_map (λ (t : Tree). name_at f.names t.root) (slice_get trees place) ≡ Some (root_of f.trees x)

  -- the root of a tree and its host are nodes
  pub record HasTreeNodes (t : Tree) : Type 0 where
    pub root : t.root < length f.names
    pub host : ForSome t.host (λ k. k < length f.names)

  -- a tree has its root's host, and the place of the tree in which that one stands
  pub record IsTree (hosts : List ShadowHost) (trees : List Tree) (t : Tree) : Type 0 where
    pub host : option_map (name_at f.names) t.host ≡ host_named f.names hosts (name_at f.names t.root)
    pub outer : ForSome t.host (λ k. IsTreeOf trees t.outer (name_at f.names k))

-- the trees on an event's way in a forest with hosts
pub record AreTrees (f : NamedTrees) (hosts : List ShadowHost) (trees : List Tree) : Type 0 where
  pub nested : AreNested trees
  pub nodes : (place : ℕ) (t : Tree) → slice_get trees place ≡ Some t → HasTreeNodes f t
  pub each : (depth : ℕ) → IsHosted f hosts depth → (place : ℕ) (t : Tree) → slice_get trees place ≡ Some t → IsTree f hosts trees t

-- a node's place: that of its tree among these, and whether it is a shadow root
pub record IsPathNode (f : NamedTrees) (hosts : List ShadowHost) (trees : List Tree) (x : PathNode) : Type 0 where
  pub node : x.node < length f.names
  pub within : x.tree < length trees
  pub tree : (depth : ℕ) → IsHosted f hosts depth → IsTreeOf f trees x.tree (name_at f.names x.node)
  pub shadow : x.is_shadow_root ≡ is_shadow (node_in f.trees (name_at f.names x.node)).kind

-- a slot and its shadow root are nodes, and that root is the host's
pub record IsSlotBelow (f : NamedTrees) (hosts : List ShadowHost) (host : ℕ) (x : SlotBelow) : Type 0 where
  pub slot_node : x.slot < length f.names
  pub root_node : x.root < length f.names
  pub attached : root_named f.names hosts (name_at f.names host) ≡ Some (name_at f.names x.root)

-- whether it is this node
abbrev pub is_key : Option ℕ → ℕ → Bool
is_key o k = option_eq nat_eq o (Some k)

-- a node, if so
abbrev pub key_if : Bool → ℕ → Option ℕ
key_if b k = if b then Some k else None

module _ (trees : List Tree) where
  -- what is seen in place of a node from the nodes of a tree (DOM Standard, concept: retarget)
  abbrev pub seen_of : ℕ → PathNode → ℕ
  seen_of viewer x = seen_from trees viewer x.node x.tree

  -- what is seen in place of a related node, if there is one, from the nodes of a tree
  abbrev pub related_from : ℕ → Option PathNode → Option ℕ
  related_from viewer related = option_map (seen_of viewer) related

  -- an item of a path, from the places of its node, of the target and of the related node (DOM Standard, concept: append to an
  -- event path)
  abbrev pub item_from : PathNode → Option PathNode → PathNode → Item
  item_from target related x = record {
    node = x.node;
    target = key_if (nat_eq x.node (seen_of x.tree target)) x.node;
    related = related_from x.tree related;
    root_of_closed = x.is_shadow_root;
    slot_in_closed = x.is_entered;
    event_target = seen_of x.tree target;
    tree = x.tree;
  }

  -- whether the path ends before a node
  abbrev pub ends_before : PathNode → Option PathNode → PathNode → Bool
  ends_before target related x =
      not (nat_eq x.node target.node) && (nat_eq x.node (seen_of x.tree target) && is_key (related_from x.tree related) x.node)

  -- whether a path has no node
  abbrev pub is_silent : PathNode → Option PathNode → Bool
  is_silent target related =
      is_key (related_from target.tree related) target.node && not (is_key (option_map (λ (a : PathNode). a.node) related) target.node)

  -- whether an item's node is hidden from the nodes of a tree (DOM Standard, concept: closed-shadow-hidden)
  abbrev pub is_hidden_item : ℕ → Item → Bool
  is_hidden_item viewer i = is_some (hiding_host trees viewer i.tree)

  -- the nodes of a path that are not hidden from the nodes of a tree
  abbrev pub shown_nodes : List Item → ℕ → List ℕ
  shown_nodes items viewer = map (λ i. i.node) (filter (λ i. not (is_hidden_item viewer i)) items)

  -- what an event shows at an item of a path
  abbrev pub view_in : List Item → Item → View ℕ
  view_in items i = record { node = i.node; target = i.event_target; related = i.related; path = shown_nodes items i.tree }
