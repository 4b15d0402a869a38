-- A list is entered in a table, and nothing is assigned to what is no slot of a host's tree.
use Rattle.dom_base.proofs.Std.{◌≡◌, ℕ, ◌<◌, ◌≤◌, Bool, true, false, ◌||◌, List, [], ◌∷◌, All, length, filter, Option, Some, None, refl, sym, ap, subst, ◌∙◌}
use Rattle.dom_base.proofs.Std.{true≢false, arith, nat_eq, if◌then◌else◌, find, option_to_list, option_map, option_map_or, option_and_then, ne_eqb}
use Rattle.dom_base.proofs.Std.{false_from_ne_true, and_parts, or_left, or_right}
use Rattle.dom_model.proofs.Model.{NodeName, DomString, name_eq, is_in, Node, nodes, names_of, node_in, parent_of, root_of, children_of, subtree, slots_among}
use Rattle.dom_model.proofs.Model.{slot_in, has_slot_name, slottable_name, is_slot_element, name_eq-true}
use Rattle.dom_tree.specs.Definitions.{NamedTrees, name_at}
use Rattle.dom_laws.proofs.Laws.{name_eq-from, filter-none}
use Rattle.dom_slots.specs.Definitions.{ShadowHost, root_named, shadows, slot_at, assigned_at, assigned_under, is_assigned_at, SlotTable, list_of}

-- a list is entered
module _ (f : NamedTrees) (s : ℕ) (list : List ℕ) (mid new : SlotTable)
    (written : (k : ℕ) → list_of new k ≡ (if nat_eq s k then list else list_of mid k)) where
  -- it is one of nodes
  pub entered_nodes : All (λ j. j < length f.names) list → ((k : ℕ) → All (λ j. j < length f.names) (list_of mid k)) → (k : ℕ) →
      All (λ j. j < length f.names) (list_of new k)
  entered_nodes here before k = subst (All (λ j. j < length f.names)) (sym (written k)) (by (nat_eq s k))
    where
      by : (b : Bool) → All (λ j. j < length f.names) (if b then list else list_of mid k)
      by true = here
      by false = before k

  -- what is no node has the list that it had
  pub entered_beyond : s < length f.names → (k : ℕ) → length f.names ≤ k → list_of new k ≡ list_of mid k
  entered_beyond node k far = written k ∙ ap (λ (b : Bool). if b then list else list_of mid k) (ne_eqb s k (λ e. omega arith))

module _ (f : NamedTrees) (hosts : List ShadowHost) where
  -- no slot of the trees of these hosts has this name
  abbrev pub NoneHas : NodeName → List ShadowHost → Type 0
  NoneHas y [] = Unit {0}
  NoneHas y (h ∷ hs) = (is_in name_eq y (slots_among (subtree f.trees (name_at f.names h.root))) ≡ false) × NoneHas y hs

  -- ---- what is assigned to a node is assigned to a slot

  -- a slot that is found stands among the slots
  found_among : (name : DomString) (y : NodeName) (ns : List Node) → option_map (λ (n : Node). n.name) (find (has_slot_name name) ns) ≡ Some y →
      is_in name_eq y (names_of (filter is_slot_element ns)) ≡ true
  found_among name y [] e = cc
  found_among name y (n ∷ ns) e = by (has_slot_name name n) refl (found_among name y ns)
    where
      behind : (b : Bool) → is_slot_element n ≡ b → is_in name_eq y (names_of (filter is_slot_element ns)) ≡ true →
          is_in name_eq y (names_of (filter is_slot_element (n ∷ ns))) ≡ true
      behind true h i = ap (λ (b : Bool). is_in name_eq y (names_of (if b then n ∷ filter is_slot_element ns else filter is_slot_element ns))) h ∙
          or_right (name_eq y n.name) _ i
      behind false h i = ap (λ (b : Bool). is_in name_eq y (names_of (if b then n ∷ filter is_slot_element ns else filter is_slot_element ns))) h ∙ i

      by : (b : Bool) → has_slot_name name n ≡ b →
          (option_map (λ (m : Node). m.name) (find (has_slot_name name) ns) ≡ Some y → is_in name_eq y (names_of (filter is_slot_element ns)) ≡ true)
          → is_in name_eq y (names_of (filter is_slot_element (n ∷ ns))) ≡ true
      by true h deeper =
          let found : Some n.name ≡ Some y =
          sym (ap (λ (b : Bool). option_map (λ (m : Node). m.name) (if b then Some n else find (has_slot_name name) ns)) h) ∙ e in
          let same : n.name ≡ y = cc in
          ap (λ (b : Bool). is_in name_eq y (names_of (if b then n ∷ filter is_slot_element ns else filter is_slot_element ns)))
          (and_parts (is_slot_element n) _ h).0 ∙ or_left (name_eq y n.name) _ (name_eq-from y n.name (sym same))
      by false h deeper = behind (is_slot_element n) refl
          (deeper (sym (ap (λ (b : Bool). option_map (λ (m : Node). m.name) (if b then Some n else find (has_slot_name name) ns)) h) ∙ e))

  root_among : (y p r : NodeName) (hs : List ShadowHost) → NoneHas y hs → root_named f.names hs p ≡ Some r →
      is_in name_eq y (slots_among (subtree f.trees r)) ≡ false
  root_among y p r [] none e = cc
  root_among y p r (h ∷ hs) none e = by (name_eq p (name_at f.names h.host)) refl (root_among y p r hs none.1)
    where
      by : (b : Bool) → name_eq p (name_at f.names h.host) ≡ b →
          (root_named f.names hs p ≡ Some r → is_in name_eq y (slots_among (subtree f.trees r)) ≡ false) →
          is_in name_eq y (slots_among (subtree f.trees r)) ≡ false
      by true i deeper =
          let found : Some (name_at f.names h.root) ≡ Some r =
          sym (ap (λ (b : Bool). option_map (λ (g : ShadowHost). name_at f.names g.root)
          (if b then Some h else find (λ (g : ShadowHost). name_eq p (name_at f.names g.host)) hs)) i) ∙ e in
          let same : name_at f.names h.root ≡ r = cc in
          ap (λ z. is_in name_eq y (slots_among (subtree f.trees z))) (sym same) ∙ none.0
      by false i deeper = deeper (sym (ap
          (λ (b : Bool). option_map (λ (g : ShadowHost). name_at f.names g.root)
          (if b then Some h else find (λ (g : ShadowHost). name_eq p (name_at f.names g.host)) hs)) i) ∙ e)

  -- what is found is not a node that is no slot of the hosts' trees
  module _ (y : NodeName) (none : NoneHas y hosts) where
    -- a slot that is found is one of the hosts' trees
    other_slot : (z p r : NodeName) → root_named f.names hosts p ≡ Some r → (o : Option DomString)
        → option_and_then (λ name. option_map (λ (m : Node). m.name) (find (has_slot_name name) (nodes (subtree f.trees r)))) o ≡ Some z → name_eq y z ≡ false
    other_slot z p r up None e = cc
    other_slot z p r up (Some name) e =
        false_from_ne_true (name_eq y z)
        (λ same. true≢false (sym (found_among name z (nodes (subtree f.trees r)) e) ∙
        (ap (λ u. is_in name_eq u (slots_among (subtree f.trees r))) (sym (name_eq-true y z same)) ∙ root_among y p r hosts none up)))

    from_root : (z p : NodeName) (n : Node) (o : Option NodeName) → root_named f.names hosts p ≡ o →
        option_and_then (λ r. slot_in (subtree f.trees r) n) o ≡ Some z → name_eq y z ≡ false
    from_root z p n None up e = cc
    from_root z p n (Some r) up e = other_slot z p r up (slottable_name n) e

    from_parent : (z : NodeName) (n : Node) (o : Option NodeName) →
        option_and_then (λ r. slot_in (subtree f.trees r) n) (option_and_then (root_named f.names hosts) o) ≡ Some z → name_eq y z ≡ false
    from_parent z n None e = cc
    from_parent z n (Some p) e = from_root z p n (root_named f.names hosts p) refl e

    -- nothing is assigned to a node that is no slot of the hosts' trees
    pub unassigned : (x : NodeName) → is_assigned_at (shadows f hosts) y x ≡ false
    unassigned x = by (slot_at (shadows f hosts) x) (λ z e. from_parent z (node_in f.trees x) (parent_of f.trees x) e)
      where
        by : (o : Option NodeName) → ((z : NodeName) → o ≡ Some z → name_eq y z ≡ false) → is_in name_eq y (option_to_list o) ≡ false
        by None h = refl
        by (Some z) h = ap (λ b. b || false) (h z refl)

    -- so its list is empty
    pub unslotted : [] ≡ assigned_at (shadows f hosts) y
    unslotted = by ((shadows f hosts).host_of (root_of f.trees y))
      where
        by : (o : Option NodeName) → [] ≡ option_map_or (assigned_under (shadows f hosts) y) o []
        by None = refl
        by (Some h) = sym (filter-none (is_assigned_at (shadows f hosts) y) (children_of f.trees h) (λ x i. unassigned x))
