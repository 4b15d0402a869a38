-- Slots, assigned nodes and signals in trees with shadow hosts, whoever owns the nodes.
use Rattle.std.specs.Prelude.{◌≡◌, ◌≢◌, Bool, false, not, ◌&&◌, List, [], ◌∷◌, ◌++◌, filter, find, Option, None, option_map, option_to_list, is_some}
use Rattle.std.specs.Prelude.{if◌then◌else◌}
use Rattle.std.specs.Option.{option_and_then, option_map_or}
use Rattle.dom_base.specs.declared.Owner.{Owner}
use Rattle.dom_base.specs.declared.NodeName.{NodeName}
use Rattle.dom_model.specs.Names.{DomString, text_eq, name_eq, is_in, is_empty, distinct, list_eq}
use Rattle.dom_model.specs.Tree.{Trees, Node, nodes, node_in, parent_of, children_of, root_of, subtree}
use Rattle.dom_model.specs.World.{World, part_of, component_at, host_of, shadow_root_of}
use Rattle.dom_model.specs.Slots.{is_slot_element, has_slot_name, slot_name, slottable_name, slot_in, slots_among}
use Rattle.dom_tree.specs.Forest.{NamedTrees}
use Rattle.dom_tree.specs.Owners.{AreOwned, trees_of_owner}
use Rattle.dom_slots.specs.Hosts.{ShadowHost, host_named, root_named}

-- Trees with the shadow root of each host, and the host of each shadow root (DOM Standard, 4.2.2 Shadow tree).
pub record ShadowTrees : Type 0 where
  pub trees : Trees
  pub shadow_of : NodeName → Option NodeName
  pub host_of : NodeName → Option NodeName

-- trees with these hosts, given by their keys
abbrev pub shadow_trees : List NodeName → Trees → List ShadowHost → ShadowTrees
shadow_trees names ts hosts = record { trees = ts; shadow_of = root_named names hosts; host_of = host_named names hosts }

-- a forest with these hosts
abbrev pub shadows : NamedTrees → List ShadowHost → ShadowTrees
shadows f hosts = shadow_trees f.names f.trees hosts

-- whether a node looks for a slot of this name
abbrev pub looks_for : DomString → Node → Bool
looks_for name n = option_map_or (λ a. text_eq a name) (slottable_name n) false

module _ (s : ShadowTrees) where
  -- the slot of a node: the first of its name in the shadow tree of its parent (DOM Standard, concept: find a slot)
  abbrev pub slot_at : NodeName → Option NodeName
  slot_at x = option_and_then (λ r. slot_in (subtree s.trees r) (node_in s.trees x)) (option_and_then s.shadow_of (parent_of s.trees x))

  -- whether y is the slot of x
  abbrev pub is_assigned_at : NodeName → NodeName → Bool
  is_assigned_at y x = is_in name_eq y (option_to_list (slot_at x))

  -- whether y is the first slot of its own name in the shadow tree of a host
  abbrev pub is_first_at : NodeName → NodeName → Bool
  is_first_at host y =
      is_in name_eq y (option_to_list (option_and_then
      (λ r. option_map (λ (n : Node). n.name) (find (has_slot_name (slot_name (node_in s.trees y))) (nodes (subtree s.trees r))))
      (s.shadow_of host)))

  -- the host's children whose slot y is, in their order
  abbrev pub assigned_under : NodeName → NodeName → List NodeName
  assigned_under y host = filter (is_assigned_at y) (children_of s.trees host)

  -- the nodes assigned to a slot (DOM Standard, concept: assigned nodes)
  abbrev pub assigned_at : NodeName → List NodeName
  assigned_at y = option_map_or (assigned_under y) (s.host_of (root_of s.trees y)) []

  -- whether a node is a slot of a shadow tree and nothing is assigned to it
  abbrev pub is_bare_at : NodeName → Bool
  is_bare_at y = is_slot_element (node_in s.trees y) && (is_some (s.host_of (root_of s.trees y)) && is_empty (assigned_at y))

-- The slots that are signalled around a node, where p tells whose assigned nodes are others and x had this slot before (own
-- rule; DOM Standard, concept: signal a slot change). In order: the old and the new slot of x; the node around, where a
-- child was placed or removed and it is a slot without assigned nodes; the slots of the tree around; those of the tree of
-- x. Each once, and all but the second only where p holds.
abbrev pub signalled_by : (NodeName → Bool) → ShadowTrees → Option NodeName → NodeName → NodeName → Bool → List NodeName
signalled_by p now old_slot x around is_move =
    let bare = if is_move && is_bare_at now around then around ∷ [] else [] in
    distinct name_eq (filter p (option_to_list old_slot ++ option_to_list (slot_at now x)) ++ bare
    ++ filter p (slots_among (subtree now.trees (root_of now.trees around)) ++ slots_among (subtree now.trees x)))

module _ (was now : ShadowTrees) where
  -- whether a slot's assigned nodes are others than they were
  abbrev pub is_changed_at : NodeName → Bool
  is_changed_at y = not (list_eq name_eq (assigned_at was y) (assigned_at now y))

  -- the slots that a step signals: x was placed or removed below a parent, or had an attribute changed
  abbrev pub signals_at : NodeName → NodeName → Bool → List NodeName
  signals_at x around is_move = signalled_by is_changed_at now (slot_at was x) x around is_move

-- A world has just these trees, each owner its own, and just these hosts: the shadow root of each host is node 0 of the
-- component that was made for it.
pub record IsShownBy (s : ShadowTrees) (w : World) : Type 0 where
  pub trees : (o : Owner) → (part_of w o).trees ≡ trees_of_owner o s.trees
  pub owned : AreOwned s.trees
  pub roots : (x : NodeName) → s.shadow_of x ≡ option_map shadow_root_of (component_at w x)
  pub hosts : (o : Owner) → s.host_of (shadow_root_of o) ≡ Rattle.dom_model.specs.World.host_of w o
  pub only : (x : NodeName) → x ≢ shadow_root_of x.owner → s.host_of x ≡ None
