-- The signals of a step, and the components in a tree, as a group has them.
use Rattle.dom_base.proofs.Std.{◌≡◌, ℕ, zero, suc, Bool, true, false, not, ◌&&◌, List, [], ◌∷◌, ◌++◌, filter, flat_map, filter_map, position, option_map}
use Rattle.dom_base.proofs.Std.{Option, Some, None, refl, sym, ap, ◌∙◌, true≢false, if◌then◌else◌, is_some, option_to_list, AllByRecursion, cons_option}
use Rattle.dom_base.proofs.Std.{filter-append}
use Rattle.dom_model.proofs.Model.{Owner, NodeName, name_eq, is_empty, list_eq, distinct, Node, nodes, names_of, node_in, root_of, subtree}
use Rattle.dom_model.proofs.Model.{inclusive_descendants, Part, World, part_of, trees_with, node_at, root_at, component_at, component_made, shadow_root_of}
use Rattle.dom_model.proofs.Model.{is_in_shadow_tree, components_below, assigned_nodes, assigned_nodes_changed, slot_of, slots_among, is_slot_element}
use Rattle.dom_model.proofs.Model.{is_bare_slot, own_slots, other_slots, signals, KeepsMakers, group_world, name_eq-true}
use Rattle.dom_worlds.specs.Definitions.{IsOf}
use Rattle.dom_worlds.proofs.ListLemmas.{all-filter, all-then, all-passed, all-distinct, all-map, filter_all, filter_none, filter_same, filter-filter, by_cases}
use Rattle.dom_isolation.proofs.GroupSlots.{in_node, part-in, part-out, filter-here, filter-away}
use Rattle.dom_isolation.proofs.GroupSlots.{IsGround, nodes-of, component-outside, slot-group, host_above-in, assigned-in}

module _ {X : Type 0} where
  -- a test on the items of which another holds, where two tests agree
  filter-as : (test p q : X → Bool) → ((x : X) → test x ≡ true → p x ≡ q x) → (xs : List X) → filter p (filter test xs) ≡ filter test (filter q xs)
  filter-as test p q same xs =
      filter_same p q (filter test xs) (all-then (λ x. test x ≡ true) (λ x. p x ≡ q x) same (filter test xs) (all-passed (λ x. test x ≡ true) test
      (λ x h. h) xs))
      ∙ filter-filter q test xs

  -- each item once, of those that pass
  filter-distinct : (test : X → Bool) (same : X → X → Bool) → ((x y : X) → same x y ≡ true → test x ≡ test y) → (xs : List X) →
      filter test (distinct same xs) ≡ distinct same (filter test xs)
  filter-distinct test same alike [] = refl
  filter-distinct test same alike (x ∷ xs) =
      let others : X → Bool = λ y. not (same x y) in
      let later : filter test (filter others (distinct same xs)) ≡ filter others (distinct same (filter test xs)) =
      filter-filter test others (distinct same xs) ∙ ap (filter others) (filter-distinct test same alike xs) in
      by_cases (test x)
      (λ h. filter-here test x (filter others (distinct same xs)) h ∙ ap (λ ys. x ∷ ys) later ∙ sym (ap (distinct same) (filter-here test x xs h)))
      (λ h. filter-away test x (filter others (distinct same xs)) h ∙ later
      ∙ filter_all others (distinct same (filter test xs))
      (all-distinct (λ y. others y ≡ true) same (filter test xs)
      (all-passed (λ y. others y ≡ true) test (λ y t. ap not (apart y t h)) xs))
      ∙ sym (ap (distinct same) (filter-away test x xs h)))
    where
      apart : (y : X) → test y ≡ true → test x ≡ false → same x y ≡ false
      apart y t h = by_cases (same x y) (λ e. absurd (true≢false (sym t ∙ sym (alike x y e) ∙ h))) (λ e. e)

module _ (g : Owner → Bool) (closed : KeepsMakers g) where
  -- whether the assigned nodes of a slot changed is the same
  changed-in : (was now : World) → IsGround was → IsGround now → (s : NodeName) → in_node g s ≡ true →
      assigned_nodes_changed (group_world g was) (group_world g now) s ≡ assigned_nodes_changed was now s
  changed-in was now i j s h =
      ap (λ xs. not (list_eq name_eq xs (assigned_nodes (group_world g now) s))) (assigned-in g closed was i s h)
      ∙ ap (λ xs. not (list_eq name_eq (assigned_nodes was s) xs)) (assigned-in g closed now j s h)

  -- the slots of a node, before and after
  own_slots-group : (was now : World) → IsGround was → IsGround now → (x : NodeName) →
      own_slots (group_world g was) (group_world g now) x ≡ filter (in_node g) (own_slots was now x)
  own_slots-group was now i j x =
      ap (λ xs. xs ++ option_to_list (slot_of (group_world g now) x)) (slot-group g closed was i x)
      ∙ ap (λ xs. filter (in_node g) (option_to_list (slot_of was x)) ++ xs) (slot-group g closed now j x)
      ∙ sym (filter-append (in_node g) (option_to_list (slot_of was x)) (option_to_list (slot_of now x)))

  -- the slots of one owner's tree
  slots_among-group : (w : World) → IsGround w → (o : Owner) (r s : NodeName) → (g o ≡ true → r ≡ s) →
      slots_among (subtree (part_of (group_world g w) o).trees r) ≡ filter (in_node g) (slots_among (subtree (part_of w o).trees s))
  slots_among-group w i o r s same =
      let ns = filter is_slot_element (nodes (subtree (part_of w o).trees s)) in
      let owned = all-map (IsOf o) (λ (m : Node). m.name) ns
      (all-filter (λ (m : Node). m.name.owner ≡ o) is_slot_element (nodes (subtree (part_of w o).trees s)) (nodes-of w i o s)) in
      by_cases (g o)
      (λ h. ap (λ (p : Part). slots_among (subtree p.trees r)) (part-in g w o h) ∙ ap (λ x. slots_among (subtree (part_of w o).trees x)) (same h)
      ∙ sym (filter_all (in_node g) (names_of ns)
      (all-then (IsOf o) (λ y. in_node g y ≡ true) (λ y e. ap g e ∙ h) (names_of ns) owned)))
      (λ h. ap (λ (p : Part). slots_among (subtree p.trees r)) (part-out g w o h)
      ∙ sym (filter_none (in_node g) (names_of ns)
      (all-then (IsOf o) (λ y. in_node g y ≡ false) (λ y e. ap g e ∙ h) (names_of ns) owned)))

  -- the slots of the tree around, and of a node's own tree
  other_slots-group : (w : World) → IsGround w → (x around : NodeName) →
      other_slots (group_world g w) x around ≡ filter (in_node g) (other_slots w x around)
  other_slots-group w i x around =
      let first = slots_among (subtree (trees_with w around) (root_at w around)) in
      let second = slots_among (subtree (trees_with w x) x) in
      ap (λ xs. xs ++ slots_among (subtree (trees_with (group_world g w) x) x))
      (slots_among-group w i around.owner (root_at (group_world g w) around) (root_at w around)
      (λ h. ap (λ (p : Part). root_of p.trees around) (part-in g w around.owner h)))
      ∙ ap (λ xs. filter (in_node g) first ++ xs) (slots_among-group w i x.owner x x (λ h. refl))
      ∙ sym (filter-append (in_node g) first second)

  -- a parent that is a slot without assigned nodes
  abbrev bare_slots : Bool → World → NodeName → List NodeName
  bare_slots is_move w around = if is_move && is_bare_slot w around then around ∷ [] else []

  -- of the group
  bare-group : (is_move : Bool) (w : World) → IsGround w → (around : NodeName) →
      bare_slots is_move (group_world g w) around ≡ filter (in_node g) (bare_slots is_move w around)
  bare-group false w i around = refl
  bare-group true w i around = by_cases (in_node g around) inside outside
    where
      v : World
      v = group_world g w

      inside : in_node g around ≡ true → bare_slots true v around ≡ filter (in_node g) (bare_slots true w around)
      inside h =
          ap (λ (p : Part). if is_slot_element (node_in p.trees around) && (is_in_shadow_tree v around && is_empty
          (assigned_nodes v around)) then around ∷ [] else [])
          (part-in g w around.owner h)
          ∙ ap (λ o. if is_slot_element (node_at w around) && (is_some o && is_empty (assigned_nodes v around)) then around ∷ [] else [])
          (host_above-in g closed w i around h)
          ∙ ap (λ xs. if is_slot_element (node_at w around) && (is_in_shadow_tree w around && is_empty xs) then around ∷ [] else [])
          (assigned-in g closed w i around h)
          ∙ kept (is_bare_slot w around)
        where
          kept : (b : Bool) → (if b then around ∷ [] else []) ≡ filter (in_node g) (if b then around ∷ [] else [])
          kept true = sym (filter-here (in_node g) around [] h)
          kept false = refl

      outside : in_node g around ≡ false → bare_slots true v around ≡ filter (in_node g) (bare_slots true w around)
      outside h =
          ap (λ (p : Part). if is_slot_element (node_in p.trees around) && (is_in_shadow_tree v around && is_empty
          (assigned_nodes v around)) then around ∷ [] else [])
          (part-out g w around.owner h)
          ∙ dropped (is_bare_slot w around)
        where
          dropped : (b : Bool) → [] ≡ filter (in_node g) (if b then around ∷ [] else [])
          dropped true = sym (filter-away (in_node g) around [] h)
          dropped false = refl

  -- The signals of a step, of those of the group.
  pub signals-group : {was now : World} → IsGround was → IsGround now → (x around : NodeName) (is_move : Bool) →
      signals (group_world g was) (group_world g now) x around is_move ≡ filter (in_node g) (signals was now x around is_move)
  signals-group {was} {now} i j x around is_move =
      let here = in_node g in
      let was' = group_world g was in
      let now' = group_world g now in
      let own = filter (assigned_nodes_changed was now) (own_slots was now x) in
      let bare = bare_slots is_move now around in
      let other = filter (assigned_nodes_changed was now) (other_slots now x around) in
      let own-is : filter (assigned_nodes_changed was' now') (own_slots was' now' x) ≡ filter here own =
      ap (filter (assigned_nodes_changed was' now')) (own_slots-group was now i j x)
      ∙ filter-as here (assigned_nodes_changed was' now') (assigned_nodes_changed was now) (changed-in was now i j) (own_slots was now x) in
      let other-is : filter (assigned_nodes_changed was' now') (other_slots now' x around) ≡ filter here other =
      ap (filter (assigned_nodes_changed was' now')) (other_slots-group now j x around)
      ∙ filter-as here (assigned_nodes_changed was' now') (assigned_nodes_changed was now) (changed-in was now i j) (other_slots now x around) in
      ap (λ xs. distinct name_eq (xs ++ bare_slots is_move now' around ++ filter (assigned_nodes_changed was' now') (other_slots now' x around))) own-is
      ∙ ap (λ xs. distinct name_eq (filter here own ++ xs ++ filter (assigned_nodes_changed was' now') (other_slots now' x around)))
      (bare-group is_move now j around)
      ∙ ap (λ xs. distinct name_eq (filter here own ++ filter here bare ++ xs)) other-is
      ∙ ap (λ xs. distinct name_eq (xs ++ filter here other)) (sym (filter-append here own bare))
      ∙ ap (distinct name_eq) (sym (filter-append here (own ++ bare) other))
      ∙ sym (filter-distinct here name_eq (λ a b e. ap here (name_eq-true a b e)) (own ++ bare ++ other))

  -- The components in the trees below a node. Those of a node outside are outside,
  abbrev trees_of : World → ℕ → List Owner → List Owner
  trees_of w depth cs = flat_map (λ c. c ∷ components_below depth w (shadow_root_of c)) cs

  abbrev IsOut : World → ℕ → Type 0
  IsOut w depth = (x : NodeName) → in_node g x ≡ false → filter g (components_below depth w x) ≡ []

  -- and those of a node of the group are the same, of the group.
  abbrev IsSame : World → ℕ → Type 0
  IsSame w depth = (x : NodeName) → in_node g x ≡ true → filter g (components_below depth (group_world g w) x) ≡ filter g (components_below depth w x)

  -- in what the group has there are none
  below-none : (depth : ℕ) (w : World) (x : NodeName) → in_node g x ≡ false → components_below depth (group_world g w) x ≡ []
  below-none zero w x out = refl
  below-none (suc depth) w x out =
      ap (λ (p : Part). flat_map (λ c. c ∷ components_below depth (group_world g w) (shadow_root_of c))
      (filter_map (component_at (group_world g w)) (inclusive_descendants p.trees x))) (part-out g w x.owner out)

  -- The components of nodes of one owner, with those below them.
  module _ (w : World) (depth : ℕ) (out : IsOut w depth) (o : Owner) where
    -- where it is outside
    out-each : IsGround w → g o ≡ false → (ys : List NodeName) → AllByRecursion (IsOf o) ys →
        filter g (trees_of w depth (filter_map (component_at w) ys)) ≡ []
    out-each i other [] h = refl
    out-each i other (y ∷ ys) h = one (component_at w y) refl (out-each i other ys h.1)
      where
        rest : List Owner
        rest = filter_map (component_at w) ys

        one : (m : Option Owner) → component_at w y ≡ m → filter g (trees_of w depth rest) ≡ [] → filter g (trees_of w depth (cons_option m rest)) ≡ []
        one None e later = later
        one (Some c) e later =
            let out_c = component-outside g closed w i y c e (ap g h.0 ∙ other) in
            filter-append g (c ∷ components_below depth w (shadow_root_of c)) (trees_of w depth rest)
            ∙ ap (λ cs. cs ++ filter g (trees_of w depth rest))
            (filter-away g c (components_below depth w (shadow_root_of c)) out_c ∙ out (shadow_root_of c) out_c)
            ∙ later

    -- where it is of the group
    in-each : IsSame w depth → g o ≡ true → (ys : List NodeName) →
        AllByRecursion (IsOf o) ys →
        filter g (trees_of (group_world g w) depth (filter_map (component_at (group_world g w)) ys)) ≡ filter g (trees_of w depth (filter_map
        (component_at w) ys))
    in-each same h [] k = refl
    in-each same h (y ∷ ys) k =
        ap (λ (p : Part). filter g (trees_of v depth (cons_option (option_map (component_made y.owner) (position (name_eq y) p.attached))
        (filter_map (component_at v) ys)))) (part-in g w y.owner (ap g k.0 ∙ h))
        ∙ one (component_at w y) (in-each same h ys k.1)
      where
        v : World
        v = group_world g w

        one_more : World → List Owner → Option Owner → List Owner
        one_more u rest m = filter g (trees_of u depth (cons_option m rest))

        one : (m : Option Owner) →
            filter g (trees_of v depth (filter_map (component_at v) ys)) ≡ filter g (trees_of w depth (filter_map (component_at w) ys)) →
            one_more v (filter_map (component_at v) ys) m ≡ one_more w (filter_map (component_at w) ys) m
        one None later = later
        one (Some c) later =
            filter-append g (c ∷ components_below depth v (shadow_root_of c)) (trees_of v depth (filter_map (component_at v) ys))
            ∙ ap (λ cs. filter g (c ∷ components_below depth v (shadow_root_of c)) ++ cs) later
            ∙ ap (λ cs. cs ++ filter g (trees_of w depth (filter_map (component_at w) ys))) below
            ∙ sym (filter-append g (c ∷ components_below depth w (shadow_root_of c)) (trees_of w depth (filter_map (component_at w) ys)))
          where
            below : filter g (c ∷ components_below depth v (shadow_root_of c)) ≡ filter g (c ∷ components_below depth w (shadow_root_of c))
            below = by_cases (g c)
                (λ t. filter-here g c (components_below depth v (shadow_root_of c)) t ∙ ap (λ cs. c ∷ cs) (same (shadow_root_of c) t)
                ∙ sym (filter-here g c (components_below depth w (shadow_root_of c)) t))
                (λ t. filter-away g c (components_below depth v (shadow_root_of c)) t
                ∙ ap (filter g) (below-none depth w (shadow_root_of c) t) ∙ sym (out (shadow_root_of c) t)
                ∙ sym (filter-away g c (components_below depth w (shadow_root_of c)) t))

  -- at any depth, outside
  pub below-outside : (depth : ℕ) (w : World) → IsGround w → IsOut w depth
  below-outside zero w i x out = refl
  below-outside (suc depth) w i x out =
      out-each w depth (below-outside depth w i) x.owner i out (inclusive_descendants (trees_with w x) x)
      (all-map (IsOf x.owner) (λ (m : Node). m.name) (nodes (subtree (trees_with w x) x)) (nodes-of w i x.owner x))

  -- and in the group
  pub below-in : (depth : ℕ) (w : World) → IsGround w → IsSame w depth
  below-in zero w i x h = refl
  below-in (suc depth) w i x h =
      ap (λ (p : Part). filter g (trees_of (group_world g w) depth (filter_map (component_at (group_world g w)) (inclusive_descendants p.trees x))))
      (part-in g w x.owner h)
      ∙ in-each w depth (below-outside depth w i) x.owner (below-in depth w i) h (inclusive_descendants (trees_with w x) x)
      (all-map (IsOf x.owner) (λ (m : Node). m.name) (nodes (subtree (trees_with w x) x)) (nodes-of w i x.owner x))

  -- of any node
  pub below-group : (depth : ℕ) (w : World) → IsGround w → (x : NodeName) →
      filter g (components_below depth (group_world g w) x) ≡ filter g (components_below depth w x)
  below-group depth w i x =
      by_cases (in_node g x) (below-in depth w i x) (λ h. ap (filter g) (below-none depth w x h) ∙ sym (below-outside depth w i x h))
