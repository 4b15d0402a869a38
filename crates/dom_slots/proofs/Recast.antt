-- Nodes with other documents or data leave all that is assigned: slots are read from names, kinds and attributes.
use Rattle.dom_base.proofs.Std.{◌≡◌, Bool, true, false, List, [], ◌∷◌, map, filter, drop, Option, Some, None, refl, sym, ap, subst, ◌∙◌, find, if◌then◌else◌}
use Rattle.dom_base.proofs.Std.{option_to_list, unwrap_or, option_map, option_map_or, option_and_then, map-append}
use Rattle.dom_model.proofs.Model.{NodeName, DomString, text_eq, name_eq, is_in, first_of, Trees, none, tree, Node, nodes, roots, names_of, no_node, node_in}
use Rattle.dom_model.proofs.Model.{or_else, subtree, inclusive_ancestors, trees_below, children_of, root_of, map_nodes, has_slot_name, slot_name}
use Rattle.dom_model.proofs.Model.{slottable_name, is_slot_element}
use Rattle.dom_tree.specs.Definitions.{NamedTrees, name_at}
use Rattle.dom_slots.specs.Definitions.{ShadowHost, host_named, root_named, ShadowTrees, shadow_trees, slot_at, assigned_at, SlotsNow, AreSlotsOf}
use Rattle.dom_slots.specs.Definitions.{bearer_at, MayHave, name_code}

-- a change of nodes that no slot sees
pub record KeepsSlots (h : Node → Node) : Type 0 where
  pub name : (n : Node) → (h n).name ≡ n.name
  pub kind : (n : Node) → (h n).kind ≡ n.kind
  pub element : (n : Node) → (h n).element ≡ n.element
  pub attributes : (n : Node) → (h n).attributes ≡ n.attributes

-- one that is made of some nodes alone
pub keeps_if : (b : Node → Bool) (h : Node → Node) → KeepsSlots h → KeepsSlots (λ n. if b n then h n else n)
keeps_if b h keeps = record {
  name = λ n. either (b n) (h n) n (λ m. m.name) (keeps.name n);
  kind = λ n. either (b n) (h n) n (λ m. m.kind) (keeps.kind n);
  element = λ n. either (b n) (h n) n (λ m. m.element) (keeps.element n);
  attributes = λ n. either (b n) (h n) n (λ m. m.attributes) (keeps.attributes n);
}
  where
    either : {X : Type 0} (c : Bool) (m n : Node) (read : Node → X) → read m ≡ read n → read (if c then m else n) ≡ read n
    either true m n read e = e
    either false m n read e = refl

-- ---- what is read of trees whose nodes were changed

module _ (h : Node → Node) (name : (n : Node) → (h n).name ≡ n.name) where
  pub nodes_recast : (ts : Trees) → nodes (map_nodes h ts) ≡ map h (nodes ts)
  nodes_recast none = refl
  nodes_recast (tree n c r) = rw (nodes_recast c, nodes_recast r) (ap (λ ns. h n ∷ ns) (sym (map-append h (nodes c) (nodes r))))

  pub path_recast : (ts : Trees) (x : NodeName) → inclusive_ancestors (map_nodes h ts) x ≡ inclusive_ancestors ts x
  path_recast none x = refl
  path_recast (tree n c r) x = rw (name n, path_recast c x, path_recast r x) refl

  pub subtree_recast : (ts : Trees) (x : NodeName) → subtree (map_nodes h ts) x ≡ map_nodes h (subtree ts x)
  subtree_recast none x = refl
  subtree_recast (tree n c r) x =
      (λ j. if name_eq (name n j) x then tree (h n) (map_nodes h c) none else or_else (subtree_recast c x j) (subtree_recast r x j))
      ∙ (ap (λ t. if name_eq n.name x then tree (h n) (map_nodes h c) none else t) (either (subtree c x)) ∙ chosen (name_eq n.name x))
    where
      either : (t : Trees) → or_else (map_nodes h t) (map_nodes h (subtree r x)) ≡ map_nodes h (or_else t (subtree r x))
      either none = refl
      either (tree m d s) = refl

      chosen : (b : Bool) → (if b then tree (h n) (map_nodes h c) none else map_nodes h (or_else (subtree c x) (subtree r x))) ≡ map_nodes h
          (if b then tree n c none else or_else (subtree c x) (subtree r x))
      chosen true = refl
      chosen false = refl

  roots_recast : (ts : Trees) → names_of (roots (map_nodes h ts)) ≡ names_of (roots ts)
  roots_recast none = refl
  roots_recast (tree n c r) = λ j. name n j ∷ roots_recast r j

  pub children_recast : (ts : Trees) (x : NodeName) → children_of (map_nodes h ts) x ≡ children_of ts x
  children_recast ts x = ap (λ t. names_of (roots (trees_below t))) (subtree_recast ts x) ∙ below (subtree ts x)
    where
      below : (t : Trees) → names_of (roots (trees_below (map_nodes h t))) ≡ names_of (roots (trees_below t))
      below none = refl
      below (tree n c r) = roots_recast c

  pub found_recast : (p : Node → Bool) → ((n : Node) → p (h n) ≡ p n) → (ns : List Node) → find p (map h ns) ≡ option_map h (find p ns)
  found_recast p same [] = refl
  found_recast p same (n ∷ ns) = (λ j. if same n j then Some (h n) else found_recast p same ns j) ∙ chosen (p n)
    where
      chosen : (b : Bool) → (if b then Some (h n) else option_map h (find p ns)) ≡ option_map h (if b then Some n else find p ns)
      chosen true = refl
      chosen false = refl

  -- what is read of the node of a name, where it is read alike of each node
  pub read_recast : {X : Type 0} (read : Node → X) → ((n : Node) → read (h n) ≡ read n) → (ts : Trees) (x : NodeName) →
      read (node_in (map_nodes h ts) x) ≡ read (node_in ts x)
  read_recast read same ts x =
      let named : Node → Bool = λ n. name_eq n.name x in
      ap (λ ns. read (unwrap_or (find named ns) (no_node x))) (nodes_recast ts)
      ∙ (ap (λ o. read (unwrap_or o (no_node x))) (found_recast named (λ n. ap (λ y. name_eq y x) (name n)) (nodes ts)) ∙ chosen (find named (nodes ts)))
    where
      chosen : (o : Option Node) → read (unwrap_or (option_map h o) (no_node x)) ≡ read (unwrap_or o (no_node x))
      chosen None = refl
      chosen (Some n) = same n

module _ (h : Node → Node) (keeps : KeepsSlots h) where
  slottable_recast : (n : Node) → slottable_name (h n) ≡ slottable_name n
  slottable_recast n = λ j. slottable_name
      record { name = n.name; kind = keeps.kind n j; element = []; attributes = keeps.attributes n j; text = []; document = None }

  slot_recast : (name : DomString) (n : Node) → has_slot_name name (h n) ≡ has_slot_name name n
  slot_recast name n = λ j. has_slot_name name
      record { name = n.name; kind = keeps.kind n j; element = keeps.element n j; attributes = keeps.attributes n j; text = []; document = None }

  element_recast : (n : Node) → is_slot_element (h n) ≡ is_slot_element n
  element_recast n = λ j. is_slot_element
      record { name = n.name; kind = keeps.kind n j; element = keeps.element n j; attributes = []; text = []; document = None }

  name_recast : (n : Node) → slot_name (h n) ≡ slot_name n
  name_recast n = λ j. slot_name
      record { name = n.name; kind = n.kind; element = []; attributes = keeps.attributes n j; text = []; document = None }

  -- and the first slot of a name is the same
  first_recast : (ts : Trees) (r : NodeName) (name : DomString)
      → option_map (λ (n : Node). n.name) (find (has_slot_name name) (nodes (subtree (map_nodes h ts) r))) ≡ option_map (λ (n : Node). n.name)
      (find (has_slot_name name) (nodes (subtree ts r)))
  first_recast ts r name =
      let named : Option Node → Option NodeName = option_map (λ (n : Node). n.name) in
      ap (λ t. named (find (has_slot_name name) (nodes t))) (subtree_recast h keeps.name ts r)
      ∙ (ap (λ ns. named (find (has_slot_name name) ns)) (nodes_recast h keeps.name (subtree ts r))
      ∙ (ap named (found_recast h keeps.name (has_slot_name name) (slot_recast name) (nodes (subtree ts r))) ∙
      chosen (find (has_slot_name name) (nodes (subtree ts r)))))
    where
      chosen : (o : Option Node) → option_map (λ (n : Node). n.name) (option_map h o) ≡ option_map (λ (n : Node). n.name) o
      chosen None = refl
      chosen (Some n) = ap (λ y. Some y) (keeps.name n)

  -- ---- what is assigned

  module _ (names : List NodeName) (ts : Trees) (hosts : List ShadowHost) where
    abbrev was : ShadowTrees
    was = shadow_trees names ts hosts

    abbrev now : ShadowTrees
    now = shadow_trees names (map_nodes h ts) hosts

    assigned_slot : (x : NodeName) → slot_at now x ≡ slot_at was x
    assigned_slot x =
        λ j.
        option_and_then (λ r. option_and_then (λ name. first_recast ts r name j) (read_recast h keeps.name slottable_name slottable_recast ts x j))
        (option_and_then (root_named names hosts) (first_of (drop 1 (path_recast h keeps.name ts x j))))

    pub assigned-recast : (y : NodeName) → assigned_at now y ≡ assigned_at was y
    assigned-recast y =
        λ j.
        option_map_or (λ host. filter (λ x. is_in name_eq y (option_to_list (assigned_slot x j))) (children_recast h keeps.name ts host j))
        (host_named names hosts (unwrap_or (Rattle.dom_model.specs.Names.last_of (path_recast h keeps.name ts y j)) y)) []

-- the slots of a forest stay those of it
pub slots-recast : {s : SlotsNow} {h : Node → Node} (f g : NamedTrees) → KeepsSlots h → g.names ≡ f.names → g.trees ≡ map_nodes h f.trees →
    AreSlotsOf f s → AreSlotsOf g s
slots-recast {s} {h} f g keeps names trees slots =
    let up : (y : NodeName) → root_of f.trees y ≡ root_of (map_nodes h f.trees) y = λ y.
    ap (λ path. unwrap_or (Rattle.dom_model.specs.Names.last_of path) y) (sym (path_recast h keeps.name f.trees y)) in
    let there : record { names = f.names; trees = map_nodes h f.trees } ≡ g = λ j. record { names = sym names j; trees = sym trees j } in
    subst (λ (k : NamedTrees). AreSlotsOf k s) there record {
      hosts = slots.hosts;
      table = record {
        nodes = slots.table.nodes;
        lists = λ k node. slots.table.lists k node ∙ sym (assigned-recast h keeps f.names f.trees s.hosts (name_at f.names k));
        beyond = slots.table.beyond;
      };
      bare = λ r e.
          let old = slots.bare r e in
          record {
            hosted = old.hosted;
            node = old.node;
            slots = λ k within at.
                let y = name_at f.names k in
                read_recast h keeps.name is_slot_element (element_recast h keeps) f.trees y
                ∙ old.slots k within (up y ∙ at);
          };
      index = record {
        covered = λ r k host root within hosted at slot.
            let y = name_at f.names k in
            subst (λ a. MayHave (bearer_at s.index (name_code r a)) k) (sym (read_recast h keeps.name slot_name (name_recast h keeps) f.trees y))
            (slots.index.covered r k host root within hosted (up y ∙ at)
            (sym (read_recast h keeps.name is_slot_element (element_recast h keeps) f.trees y) ∙ slot));
        inside = slots.index.inside;
      };
      parked = λ p is.
          let old = slots.parked p is in
          record {
            hosted = old.hosted;
            slot = old.slot;
            host = old.host;
            nodes = old.nodes;
            list = old.list
                ∙ sym (λ j. filter
                (λ y. option_map_or (λ a. text_eq a (read_recast h keeps.name slot_name (name_recast h keeps) f.trees (name_at f.names p.slot) j))
                (read_recast h keeps.name slottable_name (slottable_recast h keeps) f.trees y j) false)
                (children_recast h keeps.name f.trees (name_at f.names p.host) j));
          };
    }
