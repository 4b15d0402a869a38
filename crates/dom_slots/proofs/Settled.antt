-- What is assigned to a node stays where its tree stays, and the children of hosts but one with what they look for.
use Rattle.dom_base.proofs.Std.{◌≡◌, inl, inr, Bool, true, false, List, [], ◌∷◌, Option, None, Some, not, filter, refl, sym, ap, subst, ◌∙◌, true≢false, find}
use Rattle.dom_base.proofs.Std.{if◌then◌else◌, option_to_list, option_map, option_map_or, option_and_then}
use Rattle.dom_model.proofs.Model.{NodeName, DomString, name_eq, is_in, has_slot_name, slottable_name, slot_in, Trees, Node, nodes, names_of, node_in, subtree}
use Rattle.dom_model.proofs.Model.{parent_of, root_of, children_of}
use Rattle.dom_laws.proofs.Laws.{parent-of_child, Has-names, In, is_in-not, same_or_not, filter-same, name_eq-from, Has, has_or_not, subtree-within, Once}
use Rattle.dom_slots.specs.Definitions.{ShadowHost, host_named, root_named, ShadowTrees, shadow_trees, is_assigned_at, assigned_under, assigned_at}
use Rattle.dom_slots.proofs.Assigned.{left-passes}
use Rattle.dom_slots.proofs.PlacedTrees.{others}
use Rattle.dom_slots.proofs.Shortened.{but-none}
use Rattle.dom_slots.proofs.Rooted.{Has-root_of, in-same_tree}

-- a node has the same root, whose tree is the same
pub record IsSettled (was now : Trees) (y : NodeName) : Type 0 where
  pub root : root_of was y ≡ root_of now y
  pub tree : subtree was (root_of was y) ≡ subtree now (root_of was y)

-- hosts have the same children but for x, and those the same contents
pub record KeepsHosts (names : List NodeName) (hosts : List ShadowHost) (x : NodeName) (was now : Trees) : Type 0 where
  pub stands : (r h : NodeName) → host_named names hosts r ≡ Some h → Has was h × Has now h
  pub children : (r h : NodeName) → host_named names hosts r ≡ Some h → others x (children_of was h) ≡ others x (children_of now h)
  pub contents : (r h c : NodeName) → host_named names hosts r ≡ Some h → In c (children_of was h) → In c (children_of now h) → (c ≡ x → ⊥) →
      node_in was c ≡ node_in now c

-- what is assigned to a node stays but for x
abbrev pub KeepsBut : List NodeName → List ShadowHost → NodeName → Trees → Trees → NodeName → Type 0
KeepsBut names hosts x was now y = others x (assigned_at (shadow_trees names was hosts) y) ≡ others x (assigned_at (shadow_trees names now hosts) y)

-- so it does to each node
abbrev pub KeepsAssigned : List NodeName → List ShadowHost → NodeName → Trees → Trees → Type 0
KeepsAssigned names hosts x was now = (y : NodeName) → Has was y → Has now y → KeepsBut names hosts x was now y

-- ---- a list without x

others-in : (x c : NodeName) (xs : List NodeName) → In c (others x xs) → In c xs × (c ≡ x → ⊥)
others-in x c [] i = absurd i
others-in x c (z ∷ zs) i = by (name_eq x z) refl i (others-in x c zs)
  where
    by : (b : Bool) → name_eq x z ≡ b → In c (if not b then z ∷ others x zs else others x zs) → (In c (others x zs) → In c zs × (c ≡ x → ⊥)) →
        In c (z ∷ zs) × (c ≡ x → ⊥)
    by true e j deeper = let d = deeper j in (inr d.0, d.1)
    by false e (inl same) deeper = (inl same, λ is. true≢false (sym (name_eq-from x z (sym is ∙ same)) ∙ e))
    by false e (inr j) deeper = let d = deeper j in (inr d.0, d.1)

-- a test finds there what it finds, without x
filter-others : (p : NodeName → Bool) (x : NodeName) (xs : List NodeName) → others x (filter p xs) ≡ filter p (others x xs)
filter-others p x [] = refl
filter-others p x (z ∷ zs) = by (name_eq x z) refl (p z) refl (filter-others p x zs)
  where
    by : (b : Bool) → name_eq x z ≡ b → (d : Bool) → p z ≡ d → others x (filter p zs) ≡ filter p (others x zs) →
        others x (if d then z ∷ filter p zs else filter p zs) ≡ filter p (if not b then z ∷ others x zs else others x zs)
    by true e true i rest = ap (λ c. if not c then z ∷ others x (filter p zs) else others x (filter p zs)) e ∙ rest
    by true e false i rest = rest
    by false e true i rest = ap (λ c. if not c then z ∷ others x (filter p zs) else others x (filter p zs)) e ∙
        (ap (λ ys. z ∷ ys) rest ∙ sym (ap (λ c. if c then z ∷ filter p (others x zs) else filter p (others x zs)) i))
    by false e false i rest = rest ∙ sym (ap (λ c. if c then z ∷ filter p (others x zs) else filter p (others x zs)) i)

-- a test that x fails finds no x
without-failing : (p : NodeName → Bool) (x : NodeName) → p x ≡ false → (xs : List NodeName) → others x (filter p xs) ≡ filter p xs
without-failing p x fails xs = but-none x (filter p xs) (λ i. true≢false (sym (left-passes p x xs i) ∙ fails))

-- ---- a slot is found in the tree in which it is looked for

found-other : (q : Node → Bool) (ns : List Node) (y : NodeName) → (In y (names_of ns) → ⊥) →
    is_in name_eq y (option_to_list (option_map (λ (n : Node). n.name) (find q ns))) ≡ false
found-other q [] y off = refl
found-other q (n ∷ ns) y off = by (q n) (found-other q ns y (λ i. off (inr i)))
  where
    by : (b : Bool) → is_in name_eq y (option_to_list (option_map (λ (m : Node). m.name) (find q ns))) ≡ false
        → is_in name_eq y (option_to_list (option_map (λ (m : Node). m.name) (if b then Some n else find q ns))) ≡ false
    by true rest = is_in-not y (n.name ∷ []) (λ i. elim i [ inl e ↦ off (inl e) | inr j ↦ j ])
    by false rest = rest

pub slot-outside : (ts : Trees) (n : Node) (y : NodeName) → (Has ts y → ⊥) → is_in name_eq y (option_to_list (slot_in ts n)) ≡ false
slot-outside ts n y off = by (slottable_name n)
  where
    by : (o : Option DomString) → is_in name_eq y
        (option_to_list (option_and_then (λ name. option_map (λ (m : Node). m.name) (find (has_slot_name name) (nodes ts))) o)) ≡ false
    by None = refl
    by (Some name) = found-other (has_slot_name name) (nodes ts) y (λ i. off (Has-names ts y i))

-- ---- what is assigned

module _ (names : List NodeName) (hosts : List ShadowHost) (was now : Trees) (once_was : Once was) (once_now : Once now) where
  abbrev before : ShadowTrees
  before = shadow_trees names was hosts

  abbrev after : ShadowTrees
  after = shadow_trees names now hosts

  -- to a node outside of shadow trees nothing is
  pub assigned-unhosted : (y : NodeName) → host_named names hosts (root_of was y) ≡ None → host_named names hosts (root_of now y) ≡ None →
      assigned_at before y ≡ assigned_at after y
  assigned-unhosted y e f = ap (λ o. option_map_or (assigned_under before y) o []) e ∙ sym (ap (λ o. option_map_or (assigned_under after y) o []) f)

  -- to a node to which x neither was nor is assigned all that was is
  pub assigned-kept : (x y : NodeName) → is_assigned_at before y x ≡ false → is_assigned_at after y x ≡ false → KeepsBut names hosts x was now y →
      assigned_at before y ≡ assigned_at after y
  assigned-kept x y not_was not_now kept = sym (bare before not_was) ∙ (kept ∙ bare after not_now)
    where
      bare : (s : ShadowTrees) → is_assigned_at s y x ≡ false → others x (assigned_at s y) ≡ assigned_at s y
      bare s fails = by (s.host_of (root_of s.trees y))
        where
          by : (o : Option NodeName) → others x (option_map_or (assigned_under s y) o []) ≡ option_map_or (assigned_under s y) o []
          by None = refl
          by (Some h) = without-failing (is_assigned_at s y) x fails (children_of s.trees h)

  -- a node that has the same root, and that is found alike in the tree of each node
  module _ (y : NodeName) (same_root : root_of was y ≡ root_of now y)
      (alike : (r : NodeName) (n : Node) →
      is_in name_eq y (option_to_list (slot_in (subtree was r) n)) ≡ is_in name_eq y (option_to_list (slot_in (subtree now r) n)))
      (x : NodeName) (keeps : KeepsHosts names hosts x was now) where
    -- a child of a host but x is assigned to it in both or in neither
    child_same : (r : NodeName) {h : NodeName} (c : NodeName) → host_named names hosts r ≡ Some h → In c (children_of was h) →
        In c (children_of now h) → (c ≡ x → ⊥) → is_assigned_at before y c ≡ is_assigned_at after y c
    child_same r {h} c e i j other =
        let at = keeps.stands r h e in
        let up_was : parent_of was c ≡ Some h = (parent-of_child was h c once_was at.0 i).0 in
        let up_now : parent_of now c ≡ Some h = (parent-of_child now h c once_now at.1 j).0 in
        ap (λ o. is_in name_eq y (option_to_list
        (option_and_then (λ q. slot_in (subtree was q) (node_in was c)) (option_and_then (root_named names hosts) o)))) up_was
        ∙ (from (root_named names hosts h) ∙
        sym (ap (λ o. is_in name_eq y
        (option_to_list (option_and_then (λ q. slot_in (subtree now q) (node_in now c)) (option_and_then (root_named names hosts) o)))) up_now))
      where
        from : (o : Option NodeName) → is_in name_eq y (option_to_list (option_and_then (λ q. slot_in (subtree was q) (node_in was c)) o)) ≡ is_in
            name_eq y (option_to_list (option_and_then (λ q. slot_in (subtree now q) (node_in now c)) o))
        from None = refl
        from (Some q) = ap (λ n. is_in name_eq y (option_to_list (slot_in (subtree was q) n))) (keeps.contents r h c e i j other) ∙ alike q (node_in now c)

    -- has assigned to it what was but for x
    pub assigned-found : KeepsBut names hosts x was now y
    assigned-found = under (host_named names hosts (root_of was y)) refl ∙
        ap (λ z. others x (option_map_or (assigned_under after y) (host_named names hosts z) [])) same_root
      where
        under : (o : Option NodeName) → host_named names hosts (root_of was y) ≡ o →
            others x (option_map_or (assigned_under before y) o []) ≡ others x (option_map_or (assigned_under after y) o [])
        under None e = refl
        under (Some h) e =
            let same = keeps.children (root_of was y) h e in
            filter-others (is_assigned_at before y) x (children_of was h)
            ∙ (filter-same (is_assigned_at before y) (is_assigned_at after y) (others x (children_of was h))
            (λ c i. let w = others-in x c (children_of was h) i in child_same (root_of was y) c e w.0
            (others-in x c (children_of now h) (subst (In c) same i)).0 w.1)
            ∙ (ap (filter (is_assigned_at after y)) same ∙ sym (filter-others (is_assigned_at after y) x (children_of now h))))

    -- and x too, where the hosts have their children in their order, and x its slot
    pub assigned-unmoved : ((r h : NodeName) → host_named names hosts r ≡ Some h → children_of was h ≡ children_of now h) →
        is_assigned_at before y x ≡ is_assigned_at after y x → assigned_at before y ≡ assigned_at after y
    assigned-unmoved unmoved mine = under (host_named names hosts (root_of was y)) refl ∙
        ap (λ z. option_map_or (assigned_under after y) (host_named names hosts z) []) same_root
      where
        under : (o : Option NodeName) → host_named names hosts (root_of was y) ≡ o →
            option_map_or (assigned_under before y) o [] ≡ option_map_or (assigned_under after y) o []
        under None e = refl
        under (Some h) e =
            let same = unmoved (root_of was y) h e in
            filter-same (is_assigned_at before y) (is_assigned_at after y) (children_of was h) (λ c i. elim (same_or_not c x) [
              | inl is ↦ ap (is_assigned_at before y) is ∙ (mine ∙ sym (ap (is_assigned_at after y) is))
              | inr other ↦ child_same (root_of was y) c e i (subst (In c) same i) other
            ])
            ∙ ap (filter (is_assigned_at after y)) same

  module _ (y : NodeName) (at_was : Has was y) (at_now : Has now y) (settled : IsSettled was now y) where
    -- a node that looks in the tree of any other finds it in both or in neither
    looks_same : (r : NodeName) (n : Node) →
        is_in name_eq y (option_to_list (slot_in (subtree was r) n)) ≡ is_in name_eq y (option_to_list (slot_in (subtree now r) n))
    looks_same r n =
        let top = root_of was y in
        let top_was : Has was top = Has-root_of was once_was y at_was in
        let top_now : Has now top = subst (Has now) (sym settled.root) (Has-root_of now once_now y at_now) in
        elim (has_or_not (subtree was top) r) [
          | inl i ↦
              ap (λ (ts : Trees). is_in name_eq y (option_to_list (slot_in ts n)))
              (sym (subtree-within was top r once_was top_was i)
              ∙ (ap (λ (ts : Trees). subtree ts r) settled.tree ∙ subtree-within now top r once_now top_now (subst (λ (ts : Trees). Has ts r) settled.tree i)))
          | inr off ↦
              slot-outside (subtree was r) n y (λ i. off (in-same_tree was once_was r y i))
              ∙ sym (slot-outside (subtree now r) n y (λ i.
              off (subst (λ (ts : Trees). Has ts r) (sym settled.tree)
              (subst (λ z. Has (subtree now z) r) (sym settled.root) (in-same_tree now once_now r y i)))))
        ]

    -- to a node of a tree that stays the same is assigned what was but for x
    pub assigned-settled : (x : NodeName) → KeepsHosts names hosts x was now → KeepsBut names hosts x was now y
    assigned-settled x keeps = assigned-found y settled.root looks_same x keeps

    -- and x too, where it is not moved and has its slot
    pub unmoved-settled : (x : NodeName) → KeepsHosts names hosts x was now →
        ((r h : NodeName) → host_named names hosts r ≡ Some h → children_of was h ≡ children_of now h) →
        is_assigned_at before y x ≡ is_assigned_at after y x
        → assigned_at before y ≡ assigned_at after y
    unmoved-settled x keeps unmoved mine = assigned-unmoved y settled.root looks_same x keeps unmoved mine
