-- Trees without slots, behind a step.
use Rattle.dom_base.proofs.Std.{◌≡◌, ◌≢◌, inl, inr, ℕ, ◌<◌, Bool, true, false, not, ◌||◌, List, [], ◌∷◌, ◌++◌, Option, None, Some, length, refl, sym, ap, ◌∙◌}
use Rattle.dom_base.proofs.Std.{subst, true≢false, is_none, nat_eq, if◌then◌else◌, unwrap_or, option_map, option_map_or, and_parts, false_from_ne_true}
use Rattle.dom_base.proofs.Std.{eqb-true, eq-eqb, get_or_from_slice_get, slice_get_within}
use Rattle.dom_model.proofs.Model.{NodeName, Page, node_of, is_empty, first_of, last_of, is_slot_element, slots_among, Trees, none, tree, Node, nodes}
use Rattle.dom_model.proofs.Model.{roots, names_of, node_in, subtree, parent_of, root_of, children_of, trees_below, inclusive_descendants, with_attribute}
use Rattle.dom_tree.specs.Definitions.{NamedTrees, name_at, TellApart}
use Rattle.dom_laws.proofs.Laws.{In, is_in-from, Has, Has-names, In-names, Has-subtree, Once}
use Rattle.dom_slots.specs.Definitions.{ShadowHost, IsMoved, is_nothing, MovesNone, SlotsNow, StandsOnce, IsEndOf, IsBare, AreBare, is_marked}
use Rattle.dom_slots.specs.Definitions.{StepHasNodes, step_node, is_move}
use Rattle.dom_slots.specs.Definitions.{left_by, IsStepFrom}
use Rattle.dom_slots.specs.Steps.{is_light}
use Rattle.dom_slots.specs.declared.slots.bare.Moved.{Moved}
use Rattle.dom_slots.specs.declared.slots.bare.Moved.TheVariants.{NoSlot, Apart, Slots}
use Rattle.dom_slots.specs.declared.step.SlotChange.{SlotChange}
use Rattle.dom_slots.specs.declared.step.Step.{Step}
use Rattle.dom_slots.specs.declared.step.Step.TheVariants.{Place, Removal, Attribute}
use Rattle.dom_slots.proofs.Attaching.{in_filter}
use Rattle.dom_slots.proofs.Attributed.{changed, changed_name, node_off}
use Rattle.dom_slots.proofs.Ended.{there-was, there-now, both-stand, node-within}
use Rattle.dom_slots.proofs.Far.{slot-among, attribute-slot}
use Rattle.dom_slots.proofs.Looks.{changed-slot}
use Rattle.dom_slots.proofs.Moved as Moved
use Rattle.dom_slots.proofs.Moved.{AreBoth, node-of_tree, not-below}
use Rattle.dom_slots.proofs.NamesOfNodes.{named-filter}
use Rattle.dom_slots.proofs.PlacedTrees.{Spot, grafted, others}
use Rattle.dom_slots.proofs.Recast.{path_recast}
use Rattle.dom_slots.proofs.Rooted.{root-alone, root-parent, root-below, in-tree_of_root}
use Rattle.dom_slots.proofs.Stepping.{removal-so, place-so, attribute-name}

-- a list with no item
pub no_items : (ys : List NodeName) → ((y : NodeName) → In y ys → ⊥) → ys ≡ []
no_items [] nobody = refl
no_items (y ∷ ys) nobody = absurd (nobody y (inl refl))

-- ---- a tree without slots

module _ (ts : Trees) (once : Once ts) (top : NodeName) (bare : slots_among (subtree ts top) ≡ []) where
  -- no slot stands below its root
  pub none-below : (y : NodeName) → is_slot_element (node_in ts y) ≡ true → Has (subtree ts top) y → ⊥
  none-below y slot i = subst (In y) bare (slot-among ts once top y i slot)

  -- so none has that root
  pub none-at : (y : NodeName) → Has ts y → root_of ts y ≡ top → is_slot_element (node_in ts y) ≡ false
  none-at y h at = false_from_ne_true (is_slot_element (node_in ts y)) (λ slot.
      none-below y slot (subst (λ z. Has (subtree ts z) y) at (in-tree_of_root ts once y h)))

-- one root more is marked
module _ (f : NamedTrees) (hosts : List ShadowHost) (old marks : List Bool) (n : ℕ)
    (new : (k : ℕ) → is_marked marks k ≡ (if nat_eq n k then true else is_marked old k)) where
  pub marked-more : IsBare f hosts n → AreBare f hosts old → AreBare f hosts marks
  marked-more bare are r e = by (nat_eq n r) refl (sym (new r) ∙ e)
    where
      by : (d : Bool) → nat_eq n r ≡ d → (if d then true else is_marked old r) ≡ true → IsBare f hosts r
      by false at m = are r m
      by true at m = subst (IsBare f hosts) (eqb-true n r at) bare

-- where there is one host more there are some
pub some_host : (h : ShadowHost) (hosts : List ShadowHost) → hosts ++ h ∷ [] ≡ [] → ⊥
some_host h [] e = true≢false (sym (ap is_empty e))
some_host h (g ∷ hosts) e = true≢false (sym (ap is_empty e))

-- ---- a tree that is moved

-- its own nodes stay below it, other nodes have the roots and the children that they had, and each node is the same
pub record IsCarried (x : NodeName) (was now : Trees) : Type 0 where
  pub children : (h : NodeName) → others x (children_of was h) ≡ others x (children_of now h)
  pub own : subtree was x ≡ subtree now x
  pub roots : (y : NodeName) → (Has (subtree now x) y → ⊥) → root_of was y ≡ root_of now y
  pub nodes : (y : NodeName) → Has was y → Has now y → node_in was y ≡ node_in now y

module _ (names : List NodeName) (hosts : List ShadowHost) (m : Node) (d us : Trees) (p q : Spot)
    (apart : (y : NodeName) → Has us y → Has (tree m d none) y → ⊥)
    (both : AreBoth names hosts (grafted m d p us) (grafted m d q us)) where
  carried : IsCarried m.name (grafted m d p us) (grafted m d q us)
  carried =
      let own = Moved.own_tree names hosts m d us p q apart both in
      record {
        children = Moved.children_same names hosts m d us p q apart both;
        own = own p ∙ sym (own q);
        roots = λ y off. Moved.root_same names hosts m d us p q apart both y (λ i. off (subst (λ (ts : Trees). Has ts y) (sym (own q)) i));
        nodes = Moved.contents_same names hosts m d us p q apart both;
      }

-- ---- a step

-- where it is known that no slot was moved, none was
pub none_known : (f : NamedTrees) (hosts : List ShadowHost) (b : SlotChange) (m : Moved) → is_nothing m ≡ true → IsMoved f hosts b m → MovesNone f hosts b.step
none_known f hosts b NoSlot e still = still
none_known f hosts b Apart e is = absurd (true≢false (sym e))
none_known f hosts b (Slots v) e is = absurd (true≢false (sym e))

module _ (was : Trees) (f : NamedTrees) (s : SlotsNow) (b : SlotChange) (ended : IsEndOf was f s b) (stands : StandsOnce f) where
  abbrev x : NodeName
  x = name_at f.names (step_node b.step)

  pub both : AreBoth f.names s.hosts was f.trees
  both = both-stand was f s b ended stands

  pub here-was : Has was x
  here-was = there-was was f s b ended stands (step_node b.step) (node-within f.names b.step ended.nodes)

  pub here-now : Has f.trees x
  here-now = there-now was f s b ended stands (step_node b.step) (node-within f.names b.step ended.nodes)

  pub carries : is_move b.step ≡ true → IsCarried x was f.trees
  carries = by b.step ended.nodes ended.step
    where
      by : (step : Step) → StepHasNodes f.names step → IsStepFrom f.names was f.trees step → is_move step ≡ true →
          IsCarried (name_at f.names (step_node step)) was f.trees
      by (Place z parent next) nodes is e =
          place-so f.names s.hosts IsCarried (carried f.names s.hosts) (name_at f.names z) was f.trees both
          (there-was was f s b ended stands z nodes.0) (there-now was f s b ended stands z nodes.0) (name_at f.names parent)
          (option_map (name_at f.names) next) is
      by (Removal z) nodes is e = removal-so f.names s.hosts IsCarried (carried f.names s.hosts) (name_at f.names z) was f.trees both
          (there-was was f s b ended stands z nodes) is
      by (Attribute z) nodes is e = absurd (true≢false (sym e))

  -- a node that a move does not carry has the root that it had; a slot is one as before, and a node the same, but one with another attribute
  abbrev pub Stays : Step → NodeName → Type 0
  Stays step y = ((is_move step ≡ true → Has (subtree f.trees (name_at f.names (step_node step))) y → ⊥) → root_of was y ≡ root_of f.trees y) ×
      (Has was y → Has f.trees y → is_slot_element (node_in was y) ≡ is_slot_element (node_in f.trees y)) ×
      (Has was y → Has f.trees y → (is_move step ≡ false → y ≡ name_at f.names (step_node step) → ⊥) → node_in was y ≡ node_in f.trees y)

  pub stays : (y : NodeName) → Stays b.step y
  stays y = by b.step ended.step carries
    where
      by : (step : Step) → IsStepFrom f.names was f.trees step → (is_move step ≡ true → IsCarried (name_at f.names (step_node step)) was f.trees) → Stays step y
      by (Place z parent next) is moved =
          let c = moved refl in (λ off. c.roots y (off refl), λ h i. ap is_slot_element (c.nodes y h i), λ h i other. c.nodes y h i)
      by (Removal z) is moved =
          let c = moved refl in (λ off. c.roots y (off refl), λ h i. ap is_slot_element (c.nodes y h i), λ h i other. c.nodes y h i)
      by (Attribute z) is moved =
          let g = with_attribute is.0 is.1 in
          let named = attribute-name is.0 is.1 in
          let at = name_at f.names z in (
            λ off. ap (λ path. unwrap_or (last_of path) y) (sym (path_recast (changed at g named) (changed_name at g named) was y)) ∙
                ap (λ (ts : Trees). root_of ts y) (sym is.2),
            λ h i. sym (changed-slot at g named (attribute-slot is.0 is.1) was y) ∙ ap (λ (ts : Trees). is_slot_element (node_in ts y)) (sym is.2),
            λ h i other. sym (node_off at g named was y (other refl)) ∙ ap (λ (ts : Trees). node_in ts y) (sym is.2),
          )

  -- a tree without slots stays one, if none is carried into it
  pub bare-kept : (r : ℕ) → IsBare record { names = f.names; trees = was } s.hosts r →
      ((k : ℕ) → k < length f.names → is_slot_element (node_in f.trees (name_at f.names k)) ≡ true →
      root_of f.trees (name_at f.names k) ≡ name_at f.names r → is_move b.step ≡ true → Has (subtree f.trees x) (name_at f.names k) → ⊥) → IsBare f s.hosts r
  bare-kept r old off = record {
    hosted = old.hosted;
    node = old.node;
    slots = λ k within at. false_from_ne_true (is_slot_element (node_in f.trees (name_at f.names k))) (λ slot.
        let st = stays (name_at f.names k) in
        true≢false (sym (st.1 (there-was was f s b ended stands k within) (there-now was f s b ended stands k within) ∙ slot)
        ∙ old.slots k within (st.0 (off k within slot at) ∙ at)));
  }

  -- where no slot is moved it is so of each
  pub none-moved : MovesNone f s.hosts b.step → is_move b.step ≡ true → slots_among (subtree f.trees x) ≡ []
  none-moved (inl bare) moves = bare
  none-moved (inr no_move) moves = absurd (true≢false (sym moves ∙ no_move.0))

  pub bare-still : MovesNone f s.hosts b.step → AreBare f s.hosts s.bare
  bare-still still r e = bare-kept r (ended.slots.bare r e) (λ k within slot at moves.
      none-below f.trees both.once_now x (none-moved still moves) (name_at f.names k) slot)

  -- so it is where an attribute is changed
  pub bare-unmoved : is_move b.step ≡ false → AreBare f s.hosts s.bare
  bare-unmoved no_move r e = bare-kept r (ended.slots.bare r e) (λ k within slot at moves. absurd (true≢false (sym moves ∙ no_move)))

  -- the parent that the node had
  pub left-parent : is_move b.step ≡ true → option_map (name_at f.names) b.left ≡ parent_of was x
  left-parent moves = ended.begun.left ∙ left_of b.step moves
    where
      left_of : (step : Step) → is_move step ≡ true → left_by f.names was step ≡ parent_of was (name_at f.names (step_node step))
      left_of (Place z parent next) e = refl
      left_of (Removal z) e = refl
      left_of (Attribute z) e = absurd (true≢false (sym e))

  -- the root of the tree in which the node stood
  pub root-was : (top : ℕ) → is_move b.step ≡ true
      → name_at f.names top ≡ option_map_or (λ k. root_of f.trees (name_at f.names k)) b.left x → root_of was x ≡ name_at f.names top
  root-was top moves is = by b.left (left-parent moves) is
    where
      by : (o : Option ℕ) → option_map (name_at f.names) o ≡ parent_of was x →
          name_at f.names top ≡ option_map_or (λ k. root_of f.trees (name_at f.names k)) o x → root_of was x ≡ name_at f.names top
      by None e named = root-alone was x here-was (sym e) ∙ sym named
      by (Some k) e named =
          let c = carries moves in
          root-parent was both.once_was x (name_at f.names k) here-was (sym e)
          ∙ (c.roots (name_at f.names k) (λ i. not-below was both.once_was x here-was (sym e)
          (subst (λ (ts : Trees). Has ts (name_at f.names k)) (sym c.own) i)) ∙ sym named)

  -- of a tree without slots a move carries none
  pub bare-moved : (top : ℕ) → is_move b.step ≡ true → is_marked s.bare top ≡ true
      → name_at f.names top ≡ option_map_or (λ k. root_of f.trees (name_at f.names k)) b.left x → MovesNone f s.hosts b.step
  bare-moved top moves mark is = inl (no_items (slots_among (subtree f.trees x)) off)
    where
      off : (y : NodeName) → In y (slots_among (subtree f.trees x)) → ⊥
      off y i =
          let d = in_filter (λ z. is_slot_element (node_in f.trees z)) y (inclusive_descendants f.trees x)
          (subst (In y) (named-filter f.trees both.once_now is_slot_element x) i) in
          let below : Has (subtree f.trees x) y = Has-names (subtree f.trees x) y d.1 in
          let there = Has-subtree f.trees x y both.once_now below in
          let found = stands.only y (is_in-from y (names_of (nodes f.trees)) (In-names f.trees y there)) in
          let named : name_at f.names found.0 ≡ y = get_or_from_slice_get f.names found.0 y (node_of Page 0) found.1 in
          let c = carries moves in
          let below_was : Has (subtree was x) y = subst (λ (ts : Trees). Has ts y) (sym c.own) below in
          let root : root_of was y ≡ name_at f.names top = root-below was both.once_was x y here-was below_was ∙ root-was top moves is in
          true≢false (sym (ap is_slot_element (c.nodes y (Has-subtree was x y both.once_was below_was) there) ∙ d.0)
          ∙ subst (λ z. is_slot_element (node_in was z) ≡ false) named
          ((ended.slots.bare top mark).slots found.0 (slice_get_within f.names found.0 y found.1) (ap (root_of was) named ∙ root)))

  -- then its node is marked
  pub bare-marked : (marks : List Bool) → ((k : ℕ) → is_marked marks k ≡ (if nat_eq (step_node b.step) k then true else is_marked s.bare k)) →
      is_move b.step ≡ true → s.hosts ≢ [] → MovesNone f s.hosts b.step → AreBare f s.hosts marks
  bare-marked marks new moves hosted still = marked-more f s.hosts s.bare marks (step_node b.step) new record {
    hosted = hosted;
    node = node-within f.names b.step ended.nodes;
    slots = λ k within. none-at f.trees both.once_now x (none-moved still moves) (name_at f.names k) (there-now was f s b ended stands k within);
  } (bare-still still)

  -- else the root that it has is marked no more
  pub bare-spoiled : (marks : List Bool) (root : ℕ)
      → ((k : ℕ) → is_marked marks k ≡ (if nat_eq root k then false else is_marked s.bare k)) → TellApart f.names → root < length f.names →
      name_at f.names root ≡ root_of f.trees x → AreBare f s.hosts marks
  bare-spoiled marks root new distinct node is r e = by (nat_eq root r) refl (sym (new r) ∙ e)
    where
      by : (d : Bool) → nat_eq root r ≡ d → (if d then false else is_marked s.bare r) ≡ true → IsBare f s.hosts r
      by true at m = absurd (true≢false (sym m))
      by false at m =
          let old = ended.slots.bare r m in
          bare-kept r old (λ k within slot top moves i.
          true≢false (sym (eq-eqb root r (distinct root r node old.node
          (is ∙ (sym (root-below f.trees both.once_now x (name_at f.names k) here-now i) ∙ top)))) ∙ at))

  -- a step of a node that is no slot, and has no child where it is moved, moves none
  pub light-none : is_light f.names f.trees b.step ≡ true → MovesNone f s.hosts b.step
  light-none e = by (is_move b.step) refl (and_parts _ _ e).1
    where
      no_slot : is_slot_element (node_in f.trees x) ≡ false
      no_slot = turned (is_slot_element (node_in f.trees x)) (and_parts _ _ e).0
        where
          turned : (c : Bool) → not c ≡ true → c ≡ false
          turned true h = absurd (true≢false (sym h))
          turned false h = refl

      leaf : (c : Trees) → is_none (first_of (names_of (roots c))) ≡ true → c ≡ none
      leaf none h = refl
      leaf (tree n c r) h = absurd (true≢false (sym h))

      by : (m : Bool) → is_move b.step ≡ m → (not m || is_none (first_of (children_of f.trees x))) ≡ true → MovesNone f s.hosts b.step
      by false no_move h = inr (no_move, no_slot)
      by true moves h =
          let w = node-of_tree f.trees both.once_now x here-now in
          inl (ap slots_among w.2
          ∙ (ap (λ (c : Trees). slots_among (tree w.0 c none))
          (leaf w.1 (subst (λ (ts : Trees). is_none (first_of (names_of (roots (trees_below ts)))) ≡ true) w.2 h))
          ∙ ap (λ (c : Bool). names_of (if c then w.0 ∷ [] else [])) (ap is_slot_element (sym w.3) ∙ no_slot)))
