-- The slots of the tree of a node.
use Rattle.dom_base.proofs.Std.{◌≡◌, ℕ, ◌<◌, true, length, subst, get_or_from_slice_get, slice_get_within}
use Rattle.dom_model.proofs.Model.{NodeName, Page, node_of, is_slot_element, slots_among, has_node, node_in, subtree, root_of, inclusive_descendants}
use Rattle.dom_model.proofs.Model.{names_of, nodes}
use Rattle.dom_tree.specs.Definitions.{NamedTrees, name_at}
use Rattle.dom_laws.proofs.Laws.{Has-names, Once, In, Has, Has-subtree, is_in-from, In-names}
use Rattle.dom_slots.specs.Definitions.{tree_slots, StandsOnce}
use Rattle.dom_slots.proofs.Attaching.{in_filter}
use Rattle.dom_slots.proofs.Far.{slot-among}
use Rattle.dom_slots.proofs.NamesOfNodes.{named-filter}
use Rattle.dom_slots.proofs.Rooted.{root-below, root-within, in-tree_of_root}
use Rattle.dom_tree.proofs.Standing.{Once-forest}

module _ (f : NamedTrees) (once : Once f.trees) where
  -- a slot in a tree is a slot, and stands there
  pub is-there : (top y : NodeName) → In y (slots_among (subtree f.trees top)) → (is_slot_element (node_in f.trees y) ≡ true) × Has (subtree f.trees top) y
  is-there top y i =
      let w = in_filter (λ z. is_slot_element (node_in f.trees z)) y (inclusive_descendants f.trees top)
      (subst (In y) (named-filter f.trees once is_slot_element top) i) in
      (w.0, Has-names (subtree f.trees top) y w.1)

  -- it has the root of the tree
  pub slot-root : (x y : NodeName) → Has f.trees x → In y (tree_slots f.trees x) → root_of f.trees y ≡ root_of f.trees x
  slot-root x y h i = root-within f.trees once x y h (is-there (root_of f.trees x) y i).1

  -- a slot below a node is one of the node's tree
  pub below-root : (x y : NodeName) → Has f.trees x → In y (slots_among (subtree f.trees x)) → In y (tree_slots f.trees x)
  below-root x y h i =
      let w = is-there x y i in
      slot-among f.trees once (root_of f.trees x) y
      (subst (λ r. Has (subtree f.trees r) y) (root-below f.trees once x y h w.1) (in-tree_of_root f.trees once y (Has-subtree f.trees x y once w.1))) w.0

  -- and is a node
  pub slot-stands : (top y : NodeName) → In y (slots_among (subtree f.trees top)) → has_node f.trees y ≡ true
  slot-stands top y i = is_in-from y (names_of (nodes f.trees)) (In-names f.trees y (Has-subtree f.trees top y once (is-there top y i).1))

-- a slot in a tree has a key
pub slot-key : (f : NamedTrees) → StandsOnce f → (top y : NodeName) → In y (slots_among (subtree f.trees top)) →
    (k : ℕ) × (k < length f.names) × (name_at f.names k ≡ y)
slot-key f stands top y i =
    let w = stands.only y (slot-stands f (Once-forest f stands.once stands.only) top y i) in
    (w.0, slice_get_within f.names w.0 y w.1, get_or_from_slice_get f.names w.0 y (node_of Page 0) w.1)
