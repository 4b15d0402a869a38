-- What is read of trees with hosts is what is read of a world that has just these.
use Rattle.dom_base.proofs.Std.{◌≡◌, inl, inr, Bool, true, false, ◌&&◌, not, [], ◌∷◌, ◌++◌, Option, Some, None, option_map, filter, refl, sym, ap, ◌∙◌}
use Rattle.dom_base.proofs.Std.{if◌then◌else◌, is_some, option_to_list, option_and_then, option_map_or, cases_Bool, both_ways}
use Rattle.dom_model.proofs.Model.{Owner, NodeName, name_eq, is_in, is_empty, distinct, list_eq, Trees, Node, node_in, parent_of, children_of, root_of, subtree}
use Rattle.dom_model.proofs.Model.{World, part_of, component_at, shadow_root_of, shadow_tree, some_if, host_above, parent_at, node_at, root_at, trees_with}
use Rattle.dom_model.proofs.Model.{slot_of, slot_in, slots_among, assigned_nodes, slottables_of, is_assigned_to, is_slot_element, signals, name_eq-true}
use Rattle.dom_tree.proofs.Owned.{read_own, stays_own}
use Rattle.dom_laws.proofs.Laws.{name_eq-from}
use Rattle.dom_slots.specs.Definitions.{ShadowTrees, IsShownBy, slot_at, assigned_at, assigned_under, is_assigned_at, signals_at}

-- a value that is there is kept, or not
pub some_if-kept : (o : Option NodeName) (b : Bool) → b ≡ true → option_and_then (some_if b) o ≡ o
some_if-kept None b e = refl
some_if-kept (Some x) b e = ap (λ c. some_if c x) e

-- one that is not
pub some_if-dropped : (o : Option NodeName) (b : Bool) → b ≡ false → option_and_then (some_if b) o ≡ None
some_if-dropped None b e = refl
some_if-dropped (Some x) b e = ap (λ c. some_if c x) e

module _ (s : ShadowTrees) (w : World) (shown : IsShownBy s w) where
  pub parent-shown : (x : NodeName) → parent_at w x ≡ parent_of s.trees x
  parent-shown x = ap (λ (ts : Trees). parent_of ts x) (shown.trees x.owner) ∙ sym (read_own s.trees shown.owned x.owner x refl).parent

  pub node-shown : (x : NodeName) → node_at w x ≡ node_in s.trees x
  node-shown x = ap (λ (ts : Trees). node_in ts x) (shown.trees x.owner) ∙ sym (read_own s.trees shown.owned x.owner x refl).node

  pub root-shown : (x : NodeName) → root_at w x ≡ root_of s.trees x
  root-shown x = ap (λ (ts : Trees). root_of ts x) (shown.trees x.owner) ∙ sym (read_own s.trees shown.owned x.owner x refl).root

  children-shown : (x : NodeName) → children_of (trees_with w x) x ≡ children_of s.trees x
  children-shown x = ap (λ (ts : Trees). children_of ts x) (shown.trees x.owner) ∙ sym (read_own s.trees shown.owned x.owner x refl).children

  -- the tree of a node of an owner
  tree-shown : (o : Owner) (x : NodeName) → x.owner ≡ o → subtree (part_of w o).trees x ≡ subtree s.trees x
  tree-shown o x is = ap (λ (ts : Trees). subtree ts x) (shown.trees o) ∙ sym (read_own s.trees shown.owned o x is).alone

  -- the slot found in a shadow tree
  searched : (n m : Node) → n ≡ m → (o : Option Owner) →
      option_and_then (λ c. slot_in (shadow_tree w c) n) o ≡ option_and_then (λ r. slot_in (subtree s.trees r) m) (option_map shadow_root_of o)
  searched n m e None = refl
  searched n m e (Some c) = ap (λ (ts : Trees). slot_in ts n) (tree-shown c (shadow_root_of c) refl) ∙ ap (slot_in (subtree s.trees (shadow_root_of c))) e

  from_parent : (n m : Node) → n ≡ m → (o : Option NodeName)
      → option_and_then (λ c. slot_in (shadow_tree w c) n) (option_and_then (component_at w) o) ≡ option_and_then
      (λ r. slot_in (subtree s.trees r) m) (option_and_then s.shadow_of o)
  from_parent n m e None = refl
  from_parent n m e (Some p) = searched n m e (component_at w p) ∙ ap (option_and_then (λ r. slot_in (subtree s.trees r) m)) (sym (shown.roots p))

  -- the slot of a node
  pub slot-shown : (x : NodeName) → slot_of w x ≡ slot_at s x
  slot-shown x =
      ap (λ o. option_and_then (λ c. slot_in (shadow_tree w c) (node_at w x)) (option_and_then (component_at w) o)) (parent-shown x)
      ∙ from_parent (node_at w x) (node_in s.trees x) (node-shown x) (parent_of s.trees x)

  -- the host of a node's root
  pub host-shown : (x : NodeName) → host_above w x ≡ s.host_of (root_of s.trees x)
  host-shown x =
      let r = root_of s.trees x in
      let o = Rattle.dom_model.specs.World.host_of w x.owner in
      let its = shadow_root_of x.owner in
      ap (λ y. option_and_then (some_if (name_eq y its)) o) (root-shown x) ∙ elim (cases_Bool (name_eq r its)) [
        | inl e ↦ some_if-kept o (name_eq r its) e ∙ (sym (shown.hosts x.owner) ∙ ap s.host_of (sym (name_eq-true r its e)))
        | inr e ↦
            let owner : r.owner ≡ x.owner = (stays_own s.trees shown.owned x.owner x refl).root in
            some_if-dropped o (name_eq r its) e ∙ sym (shown.only r (λ same. both_ways _ e (name_eq-from r its (same ∙ ap shadow_root_of owner))))
      ]

  -- the nodes assigned to a slot
  pub assigned-shown : (y : NodeName) → assigned_nodes w y ≡ assigned_at s y
  assigned-shown y =
      let tests : is_assigned_to w y ≡ is_assigned_at s y = λ j x. is_in name_eq y (option_to_list (slot-shown x j)) in
      let under : slottables_of w y ≡ assigned_under s y = λ j h. filter (tests j) (children-shown h j) in
      λ j. option_map_or (under j) (host-shown y j) []

-- the slots that a step signals
pub signals-shown : {s t : ShadowTrees} {was now : World} → IsShownBy s was → IsShownBy t now → (x around : NodeName) (is_move : Bool) →
    signals was now x around is_move ≡ signals_at s t x around is_move
signals-shown {s} {t} {was} {now} before after x around is_move =
    let own : subtree (trees_with now around) (root_at now around) ≡ subtree t.trees (root_of t.trees around) =
    ap (subtree (trees_with now around)) (root-shown t now after around) ∙ tree-shown t now after around.owner (root_of t.trees around)
    (stays_own t.trees after.owned around.owner around refl).root in
    λ j.
    let changed : NodeName → Bool = λ y. not (list_eq name_eq (assigned-shown s was before y j) (assigned-shown t now after y j)) in
    let is_bare = is_slot_element (node-shown t now after around j) &&
    (is_some (host-shown t now after around j) && is_empty (assigned-shown t now after around j)) in
    let bare = if is_move && is_bare then around ∷ [] else [] in
    distinct name_eq (filter changed (option_to_list (slot-shown s was before x j) ++ option_to_list (slot-shown t now after x j)) ++ bare
    ++ filter changed (slots_among (own j) ++ slots_among (tree-shown t now after x.owner x refl j)))
