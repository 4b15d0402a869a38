-- What is assigned to a node stays where no slot is moved and no slot has an attribute changed, and where the node is no slot
-- of a tree that a slot joins, leaves or is changed in.
use Rattle.dom_base.proofs.Std.{◌≡◌, ◌⊎◌, inl, inr, true, false, ◌&&◌, List, [], ◌∷◌, Option, Some, None, refl, sym, ap, subst, ◌∙◌, true≢false, find}
use Rattle.dom_base.proofs.Std.{option_to_list, option_map, option_map_or, cases_Bool, and_parts, false_from_ne_true, none-some}
use Rattle.dom_model.proofs.Model.{NodeName, Word, DomString, text_eq, name_eq, is_in, first_of, is_slot_element, has_slot_name, slot_name, slottable_name}
use Rattle.dom_model.proofs.Model.{slot_in, slots_among, Trees, none, tree, Node, nodes, node_in, subtree, parent_of, root_of, inclusive_descendants}
use Rattle.dom_model.proofs.Model.{change_node, with_attribute}
use Rattle.dom_tree.specs.Definitions.{name_at}
use Rattle.dom_laws.proofs.Laws.{In-names, In, is_in-from, is_in-not, filter-none, Has, has_or_not, subtree-present, Once}
use Rattle.dom_slots.specs.Definitions.{ShadowHost, shadow_trees, is_assigned_at, assigned_at}
use Rattle.dom_slots.proofs.Attaching.{in_filter, to_filter}
use Rattle.dom_slots.proofs.Attributed as Attributed
use Rattle.dom_slots.proofs.Entering.{NoneHas, unslotted}
use Rattle.dom_slots.proofs.Firsts.{text_same, named_so}
use Rattle.dom_slots.proofs.PlacedTrees.{Spot, grafted, others}
use Rattle.dom_slots.proofs.Looks.{grafted-first, grafted-found, changed-slot, changed-found}
use Rattle.dom_slots.proofs.Moved.{AreBoth}
use Rattle.dom_slots.proofs.Moved as Moved
use Rattle.dom_slots.proofs.NamesOfNodes.{named-filter, named-first}
use Rattle.dom_slots.proofs.Rooted.{root-within, in-tree_of_root}
use Rattle.dom_slots.proofs.Settled.{IsSettled, KeepsBut, KeepsAssigned, assigned-found, assigned-unmoved, assigned-settled}

-- ---- slots and nodes that are none

module _ (ts : Trees) (once : Once ts) where
  -- a slot of a tree is among its slots
  pub slot-among : (top y : NodeName) → Has (subtree ts top) y → is_slot_element (node_in ts y) ≡ true → In y (slots_among (subtree ts top))
  slot-among top y i e =
      subst (In y) (sym (named-filter ts once is_slot_element top))
      (to_filter (λ z. is_slot_element (node_in ts z)) y (inclusive_descendants ts top) e (In-names (subtree ts top) y i))

  -- a node that is no slot is not
  none_among : (names : List NodeName) (hosts hs : List ShadowHost) (y : NodeName) → is_slot_element (node_in ts y) ≡ false →
      NoneHas record { names = names; trees = ts } hosts y hs
  none_among names hosts [] y e = tt
  none_among names hosts (h ∷ hs) y e = (
    is_in-not y (slots_among (subtree ts (name_at names h.root)))
        (λ i. true≢false (sym (in_filter (λ z. is_slot_element (node_in ts z)) y (inclusive_descendants ts (name_at names h.root))
        (subst (In y) (named-filter ts once is_slot_element (name_at names h.root)) i)).0 ∙ e)),
    none_among names hosts hs y e,
  )

  -- and nothing is assigned to it
  no_slot-unassigned : (names : List NodeName) (hosts : List ShadowHost) (y : NodeName) → is_slot_element (node_in ts y) ≡ false →
      [] ≡ assigned_at (shadow_trees names ts hosts) y
  no_slot-unassigned names hosts y e = unslotted record { names = names; trees = ts } hosts y (none_among names hosts hosts y e)

-- a slot that stands neither below x nor in the tree of a parent of x, the one before a step or the one behind it
pub record IsAway (x : NodeName) (was now : Trees) (y : NodeName) : Type 0 where
  pub below : Has (subtree now x) y → ⊥
  pub left : (a : NodeName) → parent_of was x ≡ Some a → Has (subtree now (root_of now a)) y → ⊥
  pub parent : (a : NodeName) → parent_of now x ≡ Some a → Has (subtree now (root_of now a)) y → ⊥

-- a slot that does not stand below x, where no slot has its name
pub record IsUnlike (x : NodeName) (now : Trees) (y : NodeName) : Type 0 where
  pub below : Has (subtree now x) y → ⊥
  pub names : (z : NodeName) → In z (slots_among (subtree now x)) → text_eq (slot_name (node_in now z)) (slot_name (node_in now y)) ≡ false

-- nothing below x is a slot, or this node is none, or one that is away or unlike those
abbrev pub IsFar : NodeName → Trees → Trees → NodeName → Type 0
IsFar x was now y = (slots_among (subtree now x) ≡ []) ⊎ (is_slot_element (node_in now y) ≡ true → IsAway x was now y ⊎ IsUnlike x now y)

-- so is a slot of another name than those below x
pub unlike : (now : Trees) → Once now → (x y : NodeName) → ((z : NodeName) → is_in name_eq z (slots_among (subtree now x)) ≡ true →
    text_eq (slot_name (node_in now z)) (slot_name (node_in now y)) ≡ false) → is_slot_element (node_in now y) ≡ true → IsUnlike x now y
unlike now once x y other slot = record {
  below = λ i. true≢false (sym (text_same (slot_name (node_in now y)))
      ∙ other y (is_in-from y (slots_among (subtree now x)) (slot-among now once x y i slot)));
  names = λ z i. other z (is_in-from z (slots_among (subtree now x)) i);
}

-- no slot of a name is found where no slot has it
none-first : (ts : Trees) → Once ts → (x : NodeName) (a : DomString) →
    ((z : NodeName) → In z (slots_among (subtree ts x)) → text_eq (slot_name (node_in ts z)) a ≡ false) →
    option_map (λ (n : Node). n.name) (find (has_slot_name a) (nodes (subtree ts x))) ≡ None
none-first ts once x a off =
    named-first ts once (has_slot_name a) x
    ∙ ap first_of (filter-none (λ y. has_slot_name a (node_in ts y)) (inclusive_descendants ts x) (λ z i. false_from_ne_true _ (λ h.
    let parts = and_parts (is_slot_element (node_in ts z)) _ h in
    true≢false (sym parts.1 ∙ off z (subst (In z) (sym (named-filter ts once is_slot_element x))
    (to_filter (λ y. is_slot_element (node_in ts y)) z (inclusive_descendants ts x) parts.0 i))))))

module _ (names : List NodeName) (hosts : List ShadowHost) (was now : Trees) (two : AreBoth names hosts was now) where
  -- a slot is found alike where in each tree the first one of its name is the same
  first-alike : (y : NodeName) → node_in was y ≡ node_in now y →
      ((r : NodeName) → option_map (λ (n : Node). n.name) (find (has_slot_name (slot_name (node_in now y))) (nodes (subtree was r))) ≡
      option_map (λ (n : Node). n.name) (find (has_slot_name (slot_name (node_in now y))) (nodes (subtree now r)))) → (r : NodeName) (n : Node) →
      is_in name_eq y (option_to_list (slot_in (subtree was r) n)) ≡ is_in name_eq y (option_to_list (slot_in (subtree now r) n))
  first-alike y same first r n =
      named_so (shadow_trees names was hosts) two.once_was y y r (slottable_name n)
      ∙ (ap (λ (m : Node). is_in name_eq y (option_to_list (option_map (λ (k : Node). k.name) (find (has_slot_name (slot_name m)) (nodes (subtree was r)))))
      && option_map_or (λ a. text_eq a (slot_name m)) (slottable_name n) false) same
      ∙ (ap (λ o. is_in name_eq y (option_to_list o) && option_map_or (λ a. text_eq a (slot_name (node_in now y))) (slottable_name n) false) (first r)
      ∙ sym (named_so (shadow_trees names now hosts) two.once_now y y r (slottable_name n))))

-- a node stands in its own tree
pub own_tree : (ts : Trees) (x : NodeName) → Has ts x → Has (subtree ts x) x
own_tree ts x h = let w = subtree-present ts x h in subst (λ (us : Trees). Has us x) (sym w.2) (inl w.3)

-- what is assigned to such nodes stays but for x
abbrev pub KeepsFar : List NodeName → List ShadowHost → NodeName → Trees → Trees → Type 0
KeepsFar names hosts x was now = (y : NodeName) → Has was y → Has now y → IsFar x was now y → KeepsBut names hosts x was now y

-- ---- a tree that is moved

module _ (names : List NodeName) (hosts : List ShadowHost) (m : Node) (d us : Trees) (p q : Spot)
    (apart : (y : NodeName) → Has us y → Has (tree m d none) y → ⊥)
    (both : AreBoth names hosts (grafted m d p us) (grafted m d q us)) where
  abbrev was : Trees
  was = grafted m d p us

  abbrev now : Trees
  now = grafted m d q us

  abbrev x : NodeName
  x = m.name

  pub far-kept : KeepsFar names hosts x was now
  far-kept y h g far = elim (cases_Bool (is_slot_element (node_in now y))) [
    | inl e ↦ by e far
    | inr e ↦
        ap (others x)
        (sym (no_slot-unassigned was both.once_was names hosts y
        (ap is_slot_element (Moved.contents_same names hosts m d us p q apart both y h g) ∙ e)) ∙ no_slot-unassigned now both.once_now names
        hosts y e)
  ]
    where
      by : is_slot_element (node_in now y) ≡ true → IsFar x was now y → KeepsBut names hosts x was now y
      by e (inr off) = elim (off e) [
        | inl a ↦
            assigned-settled names hosts was now both.once_was both.once_now y h g
            (Moved.moved-settled names hosts m d us p q apart both y h g a.below a.left a.parent) x
            (Moved.keeps_hosts names hosts m d us p q apart both)
        | inr u ↦
            let same = Moved.own_tree names hosts m d us p q apart both q in
            let bare = ap (λ (ts : Trees). option_map (λ (n : Node). n.name) (find (has_slot_name (slot_name (node_in now y))) (nodes ts))) (sym same) ∙
            none-first now both.once_now x (slot_name (node_in now y)) u.names in
            assigned-found names hosts was now both.once_was both.once_now y
            (Moved.root_same names hosts m d us p q apart both y (λ i. u.below (subst (λ (ts : Trees). Has ts y) (sym same) i)))
            (first-alike names hosts was now both y (Moved.contents_same names hosts m d us p q apart both y h g)
            (grafted-first m d (slot_name (node_in now y)) bare us p q apart)) x (Moved.keeps_hosts names hosts m d us p q apart both)
      ]
      by e (inl bare) =
          let below : Has (subtree now x) y → ⊥ = λ i. subst (In y) bare (slot-among now both.once_now x y i e) in
          let off : Has (tree m d none) y → ⊥ = λ i. below (subst (λ (ts : Trees). Has ts y) (sym (Moved.own_tree names hosts m d us p q apart both q)) i) in
          let own : slots_among (tree m d none) ≡ [] = ap slots_among (sym (Moved.own_tree names hosts m d us p q apart both q)) ∙ bare in
          assigned-found names hosts was now both.once_was both.once_now y (Moved.root_same names hosts m d us p q apart both y off)
          (λ r n. ap (λ o. is_in name_eq y (option_to_list o)) (grafted-found m d own us p q apart r n)) x (Moved.keeps_hosts names hosts m d us p q apart both)

  -- where x had no parent and has none, all others stay where they are assigned
  pub alone-kept : parent_of was x ≡ None → parent_of now x ≡ None → KeepsAssigned names hosts x was now
  alone-kept e f y h g = assigned-settled names hosts was now both.once_was both.once_now y h g settled x (Moved.keeps_hosts names hosts m d us p q apart both)
    where
      settled : IsSettled was now y
      settled = elim (has_or_not (subtree now x) y) [
        | inl i ↦ Moved.alone-settled names hosts m d us p q apart both y i e f
        | inr off ↦ Moved.moved-settled names hosts m d us p q apart both y h g off (λ a is. absurd (none-some a (sym e ∙ is)))
            (λ a is. absurd (none-some a (sym f ∙ is)))
      ]

-- ---- a node whose attributes are changed

module _ (x : NodeName) (g : Node → Node) (keeps : (n : Node) → (g n).name ≡ n.name) (element : (n : Node) → is_slot_element (g n) ≡ is_slot_element n)
    (names : List NodeName) (hosts : List ShadowHost) (ts : Trees) (two : AreBoth names hosts ts (change_node g x ts)) where
  -- it is no slot, or this node is none, or one that does not stand in its tree
  abbrev pub IsApart : NodeName → Type 0
  IsApart y = (is_slot_element (node_in (change_node g x ts) x) ≡ false) ⊎
      (is_slot_element (node_in (change_node g x ts) y) ≡ true → Has (subtree (change_node g x ts) (root_of (change_node g x ts) x)) y → ⊥)

  -- where it is no slot each node finds the slot that it found
  found-still : is_slot_element (node_in (change_node g x ts) x) ≡ false → (y r : NodeName) (n : Node) →
      is_in name_eq y (option_to_list (slot_in (subtree ts r) n)) ≡ is_in name_eq y (option_to_list (slot_in (subtree (change_node g x ts) r) n))
  found-still off y r n = ap (λ o. is_in name_eq y (option_to_list o))
      (changed-found x g keeps element ts two.once_was (sym (changed-slot x g keeps element ts x) ∙ off) r n)

  -- so all stays where the node has the slot that it had
  pub changed-still : is_slot_element (node_in (change_node g x ts) x) ≡ false → (y : NodeName) →
      is_assigned_at (shadow_trees names ts hosts) y x ≡ is_assigned_at (shadow_trees names (change_node g x ts) hosts) y x
      → assigned_at (shadow_trees names ts hosts) y ≡ assigned_at (shadow_trees names (change_node g x ts) hosts) y
  changed-still off y mine =
      assigned-unmoved names hosts ts (change_node g x ts) two.once_was two.once_now y (Attributed.root_same x g keeps names hosts ts two y)
      (found-still off y) x (Attributed.keeps_hosts x g keeps names hosts ts two)
      (Attributed.children_same x g keeps names hosts ts two) mine

  -- what is assigned to such nodes stays but for that one
  pub changed-far : (y : NodeName) → Has ts y → Has (change_node g x ts) y → IsApart y → KeepsBut names hosts x ts (change_node g x ts) y
  changed-far y h i (inl off) =
      assigned-found names hosts ts (change_node g x ts) two.once_was two.once_now y (Attributed.root_same x g keeps names hosts ts two y)
      (found-still off y) x (Attributed.keeps_hosts x g keeps names hosts ts two)
  changed-far y h i (inr apart) = elim (cases_Bool (is_slot_element (node_in (change_node g x ts) y))) [
    | inl e ↦
        assigned-settled names hosts ts (change_node g x ts) two.once_was two.once_now y h i
        (Attributed.changed-settled x g keeps names hosts ts two y (λ j.
        let same : root_of (change_node g x ts) y ≡ root_of (change_node g x ts) x =
        sym (Attributed.root_same x g keeps names hosts ts two y) ∙
        (sym (root-within ts two.once_was y x h j) ∙ Attributed.root_same x g keeps names hosts ts two x) in
        apart e (subst (λ z. Has (subtree (change_node g x ts) z) y) same (in-tree_of_root (change_node g x ts) two.once_now y i)))) x
        (Attributed.keeps_hosts x g keeps names hosts ts two)
    | inr e ↦
        ap (others x) (sym (no_slot-unassigned ts two.once_was names hosts y (sym (changed-slot x g keeps element ts y) ∙ e)) ∙
        no_slot-unassigned (change_node g x ts) two.once_now names hosts y e)
  ]

-- other attributes leave it a slot, or none
pub attribute-slot : (a : Word) (v : Option DomString) (n : Node) → is_slot_element (with_attribute a v n) ≡ is_slot_element n
attribute-slot a None n = refl
attribute-slot a (Some v) n = refl

-- a tree that is moved from no parent to none
abbrev pub AloneKept : List NodeName → List ShadowHost → NodeName → Trees → Trees → Type 0
AloneKept names hosts x was now = parent_of was x ≡ None → parent_of now x ≡ None → KeepsAssigned names hosts x was now

-- A tree that is put at one spot or at another.
module _ (names : List NodeName) (hosts : List ShadowHost) (m : Node) (d us : Trees) (p q : Spot)
    (apart : ((y : NodeName) → Has us y → Has (tree m d none) y → ⊥)) (both : AreBoth names hosts (grafted m d p us) (grafted m d q us)) where
  pub alone-so : AloneKept names hosts m.name (grafted m d p us) (grafted m d q us)
  alone-so e g = alone-kept names hosts m d us p q apart both e g

  pub far-so : KeepsFar names hosts m.name (grafted m d p us) (grafted m d q us)
  far-so = far-kept names hosts m d us p q apart both
