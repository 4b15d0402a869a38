-- A node whose attributes are changed outside of shadow trees leaves all others where they are assigned.
use Rattle.dom_base.proofs.Std.{◌≡◌, ◌⊎◌, inl, inr, Bool, true, false, List, [], ◌∷◌, None, Some, refl, sym, ap, ◌∙◌, drop, find, if◌then◌else◌, unwrap_or}
use Rattle.dom_base.proofs.Std.{option_map, cases_Bool}
use Rattle.dom_model.proofs.Model.{NodeName, name_eq, first_of, last_of, Trees, none, tree, Node, nodes, no_node, node_in, subtree, parent_of, root_of}
use Rattle.dom_model.proofs.Model.{children_of, map_nodes, change_node, name_eq-true, name_eq-other}
use Rattle.dom_laws.proofs.Laws.{Has, has_or_not}
use Rattle.dom_slots.specs.Definitions.{ShadowHost, host_named, shadow_trees, is_assigned_at, assigned_at}
use Rattle.dom_slots.proofs.PlacedTrees.{others}
use Rattle.dom_slots.proofs.Moved.{AreBoth, IsAside, root-aside}
use Rattle.dom_slots.proofs.Recast.{nodes_recast, path_recast, subtree_recast, children_recast, found_recast}
use Rattle.dom_slots.proofs.Rooted.{root-within}
use Rattle.dom_slots.proofs.Settled.{IsSettled, KeepsHosts, KeepsAssigned, assigned-unhosted, assigned-settled, unmoved-settled}

module _ (x : NodeName) (g : Node → Node) (keeps : (n : Node) → (g n).name ≡ n.name) where
  abbrev pub changed : Node → Node
  changed n = if name_eq n.name x then g n else n

  pub changed_name : (n : Node) → (changed n).name ≡ n.name
  changed_name n = by (name_eq n.name x)
    where
      by : (b : Bool) → (if b then g n else n).name ≡ n.name
      by true = keeps n
      by false = refl

  -- the node has the parent that it had
  pub parent-changed : (ts : Trees) (y : NodeName) → parent_of (change_node g x ts) y ≡ parent_of ts y
  parent-changed ts y = ap (λ path. first_of (drop 1 path)) (path_recast changed changed_name ts y)

  -- trees without it stay
  changed_off : (ts : Trees) → (Has ts x → ⊥) → map_nodes changed ts ≡ ts
  changed_off none off = refl
  changed_off (tree n c r) off = rw (
    name_eq-other n.name x (λ e. off (inl e)),
    changed_off c (λ i. off (inr (inl i))),
    changed_off r
        (λ i. off (inr (inr i))),
  ) refl

  -- so do other nodes
  found_off : (y : NodeName) → (y ≡ x → ⊥) → (ns : List Node) → option_map changed (find (λ n. name_eq n.name y) ns) ≡ find (λ n. name_eq n.name y) ns
  found_off y other [] = refl
  found_off y other (n ∷ ns) = elim (cases_Bool (name_eq n.name y)) [
    | inl e ↦ rw (e, name_eq-other n.name x (λ same. other (sym (name_eq-true n.name y e) ∙ same))) refl
    | inr e ↦ rw e (found_off y other ns)
  ]

  pub node_off : (ts : Trees) (y : NodeName) → (y ≡ x → ⊥) → node_in (change_node g x ts) y ≡ node_in ts y
  node_off ts y other =
      let named : Node → Bool = λ n. name_eq n.name y in
      ap (λ ns. unwrap_or (find named ns) (no_node y)) (nodes_recast changed changed_name ts)
      ∙ ap (λ o. unwrap_or o (no_node y))
      (found_recast changed changed_name named (λ n. ap (λ z. name_eq z y) (changed_name n)) (nodes ts) ∙ found_off y other (nodes ts))

  module _ (names : List NodeName) (hosts : List ShadowHost) (was : Trees) (both : AreBoth names hosts was (change_node g x was)) where
    abbrev now : Trees
    now = change_node g x was

    pub root_same : (y : NodeName) → root_of was y ≡ root_of now y
    root_same y = ap (λ path. unwrap_or (last_of path) y) (sym (path_recast changed changed_name was y))

    -- a node stays in its tree where x does not stand in it
    pub changed-settled : (y : NodeName) → (Has (subtree was (root_of was y)) x → ⊥) → IsSettled was now y
    changed-settled y away = record {
      root = root_same y;
      tree = sym (subtree_recast changed changed_name was (root_of was y) ∙ changed_off (subtree was (root_of was y)) away);
    }

    -- and hosts have the children that they had
    pub children_same : (r h : NodeName) → host_named names hosts r ≡ Some h → children_of was h ≡ children_of now h
    children_same r h e = sym (children_recast changed changed_name was h)

    pub keeps_hosts : KeepsHosts names hosts x was now
    keeps_hosts = record {
      stands = both.stands;
      children = λ r h e. ap (others x) (children_same r h e);
      contents = λ r h c e i j other. sym (node_off was c other);
    }

    module _ (aside : IsAside names hosts x was (change_node g x was)) (at_was : Has was x) (at_now : Has (change_node g x was) x) where
      settled : (y : NodeName) → Has was y → IsSettled was now y ⊎
          ((host_named names hosts (root_of was y) ≡ None) × (host_named names hosts (root_of now y) ≡ None))
      settled y h = elim (has_or_not (subtree was (root_of was y)) x) [
        | inl i ↦
            let none_was : host_named names hosts (root_of was y) ≡ None =
            ap (host_named names hosts) (sym (root-within was both.once_was y x h i) ∙ root_same x) ∙ root-aside aside at_now in
            inr (none_was, ap (host_named names hosts) (sym (root_same y)) ∙ none_was)
        | inr away ↦ inl (changed-settled y away)
      ]

      -- all others stay where they are assigned
      pub changed-keeps : KeepsAssigned names hosts x was now
      changed-keeps y h k = elim (settled y h) [
        | inl s ↦ assigned-settled names hosts was now both.once_was both.once_now y h k s x keeps_hosts
        | inr e ↦ ap (others x) (assigned-unhosted names hosts was now both.once_was both.once_now y e.0 e.1)
      ]

      -- and all where x has the slot that it had
      pub changed-stays : (y : NodeName) → Has was y → Has now y →
          is_assigned_at (shadow_trees names was hosts) y x ≡ is_assigned_at (shadow_trees names now hosts) y x
          → assigned_at (shadow_trees names was hosts) y ≡ assigned_at (shadow_trees names now hosts) y
      changed-stays y h k mine = elim (settled y h) [
        | inl s ↦ unmoved-settled names hosts was now both.once_was both.once_now y h k s x keeps_hosts children_same mine
        | inr e ↦ assigned-unhosted names hosts was now both.once_was both.once_now y e.0 e.1
      ]
