-- A step inside of a shadow tree changes at most what is assigned to the old and to the new slot of its node and, where it
-- moves a slot or changes its attributes, to the slots of the trees that it concerns.
use Rattle.dom_base.proofs.Std.{◌≡◌, ◌⊎◌, inl, inr, ℕ, ◌<◌, Bool, true, false, not, ◌&&◌, List, [], ◌++◌, All, map, filter, length, Option, None, Some, fold}
use Rattle.dom_base.proofs.Std.{refl, sym, ap, subst, ◌∙◌, true≢false, option_to_list, option_map, option_map_or, or_parts, or_left, false_from_ne_true}
use Rattle.dom_base.proofs.Std.{list_any-append, same_Some, none-some}
use Rattle.dom_model.proofs.Model.{NodeName, DomString, text_eq, name_eq, is_in, append_once, is_slot_element, slot_name, slots_among, Trees, node_in}
use Rattle.dom_model.proofs.Model.{subtree, parent_of, root_of, with_attribute}
use Rattle.dom_tree.specs.Definitions.{NamedTrees, name_at, TellApart}
use Rattle.dom_laws.proofs.Laws.{In, is_in-from, In-from, In-parts, Has}
use Rattle.dom_slots.specs.Definitions.{is_called, tree_slots, own_slots, bare_around, slots_around, left_slots, MovesNone, MovesCalled, AreSilent, MayMove}
use Rattle.dom_slots.specs.Definitions.{IsInside, SlotsNow, StandsOnce, IsEndOf, AreRenewed, IsButFor, ShadowTrees, shadows, shadow_trees, slot_at, assigned_at}
use Rattle.dom_slots.specs.Definitions.{is_changed_at, signalled_by, StepHasNodes, step_node, is_move, around_of, left_by, IsStepFrom, step_signals, SlotTable}
use Rattle.dom_slots.specs.Definitions.{list_of, IsTableOf, is_wanted}
use Rattle.dom_slots.specs.declared.step.SlotChange.{SlotChange}
use Rattle.dom_slots.specs.declared.step.Step.{Step}
use Rattle.dom_slots.specs.declared.step.Step.TheVariants.{Place, Removal, Attribute}
use Rattle.dom_slots.proofs.Attaching.{in_filter, unfiltered}
use Rattle.dom_slots.proofs.Ended.{told-signals, there-was, there-now, both-stand, not-own, none-own, but-for, others-among, renewed-table}
use Rattle.dom_slots.proofs.Far.{IsAway, IsFar, unlike, KeepsFar, AloneKept, slot-among, own_tree, far-so, alone-so, attribute-slot, changed-far, changed-still}
use Rattle.dom_slots.proofs.Firsts.{text_true}
use Rattle.dom_slots.proofs.Moved.{AreBoth}
use Rattle.dom_slots.proofs.OwnSignals.{own-signalled, skipped, passes}
use Rattle.dom_slots.proofs.Renewing.{renewed-anew}
use Rattle.dom_slots.proofs.Rooted.{root-parent}
use Rattle.dom_slots.proofs.Settled.{KeepsBut, KeepsAssigned, assigned-kept}
use Rattle.dom_slots.proofs.Signalled.{fold-distinct}
use Rattle.dom_slots.proofs.Stepping.{removal-unparented, removal-so, place-so, place-root, attribute-name}

module _ (was : Trees) (f : NamedTrees) (s : SlotsNow) (b : SlotChange) (ended : IsEndOf was f s b) (stands : StandsOnce f) where
  abbrev before : ShadowTrees
  before = shadow_trees f.names was s.hosts

  abbrev after : ShadowTrees
  after = shadows f s.hosts

  abbrev At : Step → NodeName
  At step = name_at f.names (step_node step)

  both : AreBoth f.names s.hosts was f.trees
  both = both-stand was f s b ended stands

  here_was : (k : ℕ) → k < length f.names → Has was (name_at f.names k)
  here_was = there-was was f s b ended stands

  here_now : (k : ℕ) → k < length f.names → Has f.trees (name_at f.names k)
  here_now = there-now was f s b ended stands

  -- a slot that is not among those of a tree does not stand in it
  off_slots : (top y : NodeName) → is_slot_element (node_in f.trees y) ≡ true → is_in name_eq y (slots_among (subtree f.trees top)) ≡ false →
      Has (subtree f.trees top) y → ⊥
  off_slots top y e off i = true≢false (sym (is_in-from y (slots_among (subtree f.trees top)) (slot-among f.trees both.once_now top y i e)) ∙ off)

  -- who is no slot around, and none of a tree that was left
  abbrev IsBeyond : Step → NodeName → Type 0
  IsBeyond step y =
      (k : ℕ) × (around_of step b.left ≡ Some k) × (is_in name_eq y (slots_around f s.hosts step (name_at f.names k)) ≡ false) ×
      (is_in name_eq y (left_slots f s.hosts step b.left) ≡ false)

  beyond_parts : (step : Step) (y : NodeName) (beyond : IsBeyond step y) →
      (is_in name_eq y (tree_slots f.trees (name_at f.names beyond.0)) ≡ false) × (is_in name_eq y (slots_among (subtree f.trees (At step))) ≡ false)
  beyond_parts step y beyond =
      or_parts _ _ (sym (list_any-append (name_eq y) (tree_slots f.trees (name_at f.names beyond.0)) (slots_among (subtree f.trees (At step)))) ∙ beyond.2)

  -- a slot in no tree that was left does not stand in that one
  not_left : (y a : NodeName) (o : Option ℕ) → option_map (name_at f.names) o ≡ Some a →
      is_in name_eq y (option_map_or (λ k. tree_slots f.trees (name_at f.names k)) o []) ≡ false → is_in name_eq y (tree_slots f.trees a) ≡ false
  not_left y a None e off = absurd (none-some a e)
  not_left y a (Some k) e off = subst (λ z. is_in name_eq y (tree_slots f.trees z) ≡ false) (same_Some (name_at f.names k) a e) off

  -- whose name no slot has that a step moves
  abbrev IsOther : Step → NodeName → Type 0
  IsOther step y = (is_move step ≡ true) × ((z : NodeName) → is_in name_eq z (slots_among (subtree f.trees (At step))) ≡ true →
      text_eq (slot_name (node_in f.trees z)) (slot_name (node_in f.trees y)) ≡ false)

  -- what is assigned to a node stays but for that of the step, where no slot is moved, or it is beyond, or none of its name
  abbrev MayStay : Step → NodeName → Type 0
  MayStay step y = MovesNone f s.hosts step ⊎ (IsBeyond step y ⊎ IsOther step y)

  abbrev Stays : Step → Type 0
  Stays step = (y : NodeName) → Has was y → Has f.trees y → MayStay step y → KeepsBut f.names s.hosts (At step) was f.trees y

  stays : Stays b.step
  stays = by b.step ended.nodes ended.step ended.begun.left
    where
      by : (step : Step) → StepHasNodes f.names step → IsStepFrom f.names was f.trees step →
          option_map (name_at f.names) b.left ≡ left_by f.names was step → Stays step
      by (Place z parent next) nodes is left y h i may =
          place-so f.names s.hosts (KeepsFar f.names s.hosts) (far-so f.names s.hosts) (name_at f.names z) was f.trees both (here_was z nodes.0)
          (here_now z nodes.0) (name_at f.names parent) (option_map (name_at f.names) next) is y h i
          (far may)
        where
          x : NodeName
          x = name_at f.names z

          up : NodeName
          up = name_at f.names parent

          far : MayStay (Place z parent next) y → IsFar x was f.trees y
          far (inl (inl bare)) = inl bare
          far (inl (inr no_move)) = absurd (true≢false no_move.0)
          far (inr (inr other)) = inr (λ slot. inr (unlike f.trees both.once_now x y other.1 slot))
          far (inr (inl beyond)) = inr (λ slot. inl (away slot))
            where
              same_tree : (a : NodeName) → parent_of f.trees x ≡ Some a → root_of f.trees a ≡ root_of f.trees up
              same_tree a e =
                  sym (root-parent f.trees both.once_now x a (here_now z nodes.0) e)
                  ∙ place-root x was f.trees both.once_was (here_was z nodes.0) (here_now z nodes.0) up (option_map (name_at f.names) next) is
                  both.once_now (here_now parent nodes.1)

              off_up : is_in name_eq y (tree_slots f.trees up) ≡ false
              off_up = subst (λ k. is_in name_eq y (tree_slots f.trees (name_at f.names k)) ≡ false) (sym (same_Some parent beyond.0 beyond.1))
                  (beyond_parts (Place z parent next) y beyond).0

              away : is_slot_element (node_in f.trees y) ≡ true → IsAway x was f.trees y
              away slot = record {
                below = off_slots x y slot (beyond_parts (Place z parent next) y beyond).1;
                left = λ a e. off_slots (root_of f.trees a) y slot (not_left y a b.left (left ∙ e) beyond.3);
                parent = λ a e j. off_slots (root_of f.trees up) y slot off_up (subst (λ t. Has (subtree f.trees t) y) (same_tree a e) j);
              }
      by (Removal z) nodes is left y h i may =
          removal-so f.names s.hosts (KeepsFar f.names s.hosts) (far-so f.names s.hosts) (name_at f.names z) was f.trees both (here_was z nodes)
          is y h i (far may)
        where
          x : NodeName
          x = name_at f.names z

          far : MayStay (Removal z) y → IsFar x was f.trees y
          far (inl (inl bare)) = inl bare
          far (inl (inr no_move)) = absurd (true≢false no_move.0)
          far (inr (inr other)) = inr (λ slot. inr (unlike f.trees both.once_now x y other.1 slot))
          far (inr (inl beyond)) = inr (λ slot. inl (away slot))
            where
              off_left : (a : NodeName) → parent_of was x ≡ Some a → is_in name_eq y (tree_slots f.trees a) ≡ false
              off_left a e =
                  let same : name_at f.names beyond.0 ≡ a =
                  same_Some (name_at f.names beyond.0) a (sym (ap (option_map (name_at f.names)) beyond.1) ∙ (left ∙ e)) in
                  subst (λ t. is_in name_eq y (tree_slots f.trees t) ≡ false) same (beyond_parts (Removal z) y beyond).0

              away : is_slot_element (node_in f.trees y) ≡ true → IsAway x was f.trees y
              away slot = record {
                below = off_slots x y slot (beyond_parts (Removal z) y beyond).1;
                left = λ a e. off_slots (root_of f.trees a) y slot (off_left a e);
                parent = λ a e. absurd (none-some a (sym (removal-unparented x was f.trees both.once_was (here_was z nodes) is) ∙ e));
              }
      by (Attribute z) nodes is left y h i may =
          subst Kept (sym is.2) (λ two j apart. changed-far x (with_attribute is.0 is.1) (attribute-name is.0 is.1) (attribute-slot is.0 is.1)
          f.names s.hosts was two y h j apart) both i (apart_so may)
        where
          x : NodeName
          x = name_at f.names z

          IsApart : Trees → Type 0
          IsApart ts = (is_slot_element (node_in ts x) ≡ false) ⊎ (is_slot_element (node_in ts y) ≡ true → Has (subtree ts (root_of ts x)) y → ⊥)

          Kept : Trees → Type 0
          Kept ts = AreBoth f.names s.hosts was ts → Has ts y → IsApart ts → KeepsBut f.names s.hosts x was ts y

          apart_so : MayStay (Attribute z) y → IsApart f.trees
          apart_so (inl (inl bare)) = inl
              (false_from_ne_true _ (λ slot. subst (In x) bare (slot-among f.trees both.once_now x x (own_tree f.trees x (here_now z nodes)) slot)))
          apart_so (inl (inr no_slot)) = inl no_slot.1
          apart_so (inr (inr other)) = absurd (true≢false (sym other.0))
          apart_so (inr (inl beyond)) =
              inr (λ slot. off_slots (root_of f.trees x) y slot
              (subst (λ k. is_in name_eq y (tree_slots f.trees (name_at f.names k)) ≡ false) (sym (same_Some z beyond.0 beyond.1))
              (beyond_parts (Attribute z) y beyond).0))

  -- where no slot is moved, and the node is not moved and has the slot that it had, all stays
  abbrev IsStill : Step → Type 0
  IsStill step = MovesNone f s.hosts step → is_move step ≡ false → slot_at before (At step) ≡ slot_at after (At step) → (y : NodeName) →
      Has was y → Has f.trees y → assigned_at before y ≡ assigned_at after y

  still : IsStill b.step
  still = by b.step ended.nodes ended.step
    where
      by : (step : Step) → StepHasNodes f.names step → IsStepFrom f.names was f.trees step → IsStill step
      by (Place z parent next) nodes is moves no_move same y h i = absurd (true≢false no_move)
      by (Removal z) nodes is moves no_move same y h i = absurd (true≢false no_move)
      by (Attribute z) nodes is moves no_move same y h i =
          subst Kept (sym is.2) (λ two off slots. changed-still x (with_attribute is.0 is.1) (attribute-name is.0 is.1) (attribute-slot is.0 is.1)
          f.names s.hosts was two off y (ap (λ o. is_in name_eq y (option_to_list o)) slots)) both
          (no_slot moves) same
        where
          x : NodeName
          x = name_at f.names z

          Kept : Trees → Type 0
          Kept ts =
              AreBoth f.names s.hosts was ts → is_slot_element (node_in ts x) ≡ false →
              slot_at before x ≡ slot_at (shadow_trees f.names ts s.hosts) x →
              assigned_at before y ≡ assigned_at (shadow_trees f.names ts s.hosts) y

          no_slot : MovesNone f s.hosts (Attribute z) → is_slot_element (node_in f.trees x) ≡ false
          no_slot (inl bare) = false_from_ne_true _ (λ i. subst (In x) bare (slot-among f.trees both.once_now x x (own_tree f.trees x (here_now z nodes)) i))
          no_slot (inr off) = off.1

  -- where there is no node around, the node of the step had no parent and has none
  abbrev IsAlone : Step → Type 0
  IsAlone step = KeepsAssigned f.names s.hosts (At step) was f.trees × (parent_of was (At step) ≡ None) × (parent_of f.trees (At step) ≡ None)

  alone : around_of b.step b.left ≡ None → IsAlone b.step
  alone = by b.step ended.nodes ended.step ended.begun.left
    where
      by : (step : Step) → StepHasNodes f.names step → IsStepFrom f.names was f.trees step →
          option_map (name_at f.names) b.left ≡ left_by f.names was step → around_of step b.left ≡ None → IsAlone step
      by (Place z parent next) nodes is left e = absurd (none-some parent (sym e))
      by (Attribute z) nodes is left e = absurd (none-some z (sym e))
      by (Removal z) nodes is left e =
          let x = name_at f.names z in
          let up_was : parent_of was x ≡ None = sym left ∙ ap (option_map (name_at f.names)) e in
          let up_now = removal-unparented x was f.trees both.once_was (here_was z nodes) is in (
            removal-so f.names s.hosts (AloneKept f.names s.hosts) (alone-so f.names s.hosts) x was f.trees both (here_was z nodes) is up_was
                up_now,
            up_was,
            up_now,
          )

  abbrev x : NodeName
  x = At b.step

  abbrev own : List NodeName
  own = own_slots f s.hosts b.slot b.step

  abbrev is_other : NodeName → Bool
  is_other = is_changed_at before after

  -- by keys, what is assigned to all but these slots stays
  abbrev KeepsAllBut : List NodeName → Type 0
  KeepsAllBut slots = (k : ℕ) → k < length f.names → is_in name_eq (name_at f.names k) slots ≡ false →
      assigned_at before (name_at f.names k) ≡ assigned_at after (name_at f.names k)

  none_around : around_of b.step b.left ≡ None → KeepsAllBut own
  none_around e k within other =
      let none = not-own was f s b ended stands (name_at f.names k) other in
      assigned-kept f.names s.hosts was f.trees both.once_was both.once_now x (name_at f.names k) none.0 none.1
      ((alone e).0 (name_at f.names k) (here_was k within) (here_now k within))

  none_moved : MovesNone f s.hosts b.step → KeepsAllBut own
  none_moved moves k within other =
      let off = not-own was f s b ended stands (name_at f.names k) other in
      assigned-kept f.names s.hosts was f.trees both.once_was both.once_now x (name_at f.names k) off.0 off.1
      (stays (name_at f.names k) (here_was k within) (here_now k within) (inl moves))

  -- and before the first list is renewed all are those of the trees now but for the node of the step
  pub inside-but-for : TellApart f.names → MovesNone f s.hosts b.step → IsButFor f s.hosts s.table b.slot b.step
  inside-but-for distinct moves = but-for was f s b ended stands distinct (λ y h i. stays y h i (inl moves)) (still moves)

  module _ (around : ℕ) (e : around_of b.step b.left ≡ Some around) (name : Option DomString) (moves : MovesCalled f b.step name) where
    abbrev called : NodeName → Bool
    called = is_called f.trees name

    -- the slots that are renewed with a signal, and those without one
    abbrev told_slots : List NodeName
    told_slots = own ++ filter called (slots_around f s.hosts b.step (name_at f.names around))

    abbrev lefts : List NodeName
    lefts = filter called (left_slots f s.hosts b.step b.left)

    moved : (k : ℕ) → k < length f.names → is_in name_eq (name_at f.names k) told_slots ≡ false → is_in name_eq (name_at f.names k) lefts ≡ false →
        assigned_at before (name_at f.names k) ≡ assigned_at after (name_at f.names k)
    moved k within other off =
        let y = name_at f.names k in
        let parts = or_parts _ _ (sym (list_any-append (name_eq y) own (filter called (slots_around f s.hosts b.step (name_at f.names around)))) ∙ other) in
        let none = not-own was f s b ended stands y parts.0 in
        assigned-kept f.names s.hosts was f.trees both.once_was both.once_now x y none.0 none.1
        (stays y (here_was k within) (here_now k within) (inr (may y parts.1 off (called y) refl)))
      where
        may : (y : NodeName) → is_in name_eq y (filter called (slots_around f s.hosts b.step (name_at f.names around))) ≡ false →
            is_in name_eq y lefts ≡ false → (c : Bool) → called y ≡ c → IsBeyond b.step y ⊎ IsOther b.step y
        may y apart off true hit = inl (
          around,
          e,
          unfiltered called y (slots_around f s.hosts b.step (name_at f.names around)) hit apart,
          unfiltered called y (left_slots f s.hosts b.step b.left) hit off,
        )
        may y apart off false miss = inr (
          (moves y miss).0,
          λ z i. false_from_ne_true _ (λ same. true≢false
              (sym ((moves y miss).1 z i) ∙ (ap (is_wanted name) (text_true (slot_name (node_in f.trees z)) (slot_name (node_in f.trees y)) same) ∙ miss))),
        )

    -- whose assigned nodes are others, and is not of the name, is an own slot
    other-own : (top z : NodeName) → In z (slots_among (subtree f.trees top)) → is_other z ≡ true → called z ≡ false → In z own
    other-own top z i hit miss = elim (In-parts z told_slots lefts (In-from z (told_slots ++ lefts)
        (others-among was f s b ended stands (told_slots ++ lefts) (λ k within off.
        let parts = or_parts _ _ (sym (list_any-append (name_eq (name_at f.names k)) told_slots lefts) ∙ off) in moved k within parts.0 parts.1)
        top z i hit))) [
          | inl j ↦ elim (In-parts z own (filter called (slots_around f s.hosts b.step (name_at f.names around))) j) [
            | inl h ↦ h
            | inr h ↦ absurd (true≢false (sym (in_filter called z (slots_around f s.hosts b.step (name_at f.names around)) h).0 ∙ miss))
          ]
          | inr j ↦ absurd (true≢false (sym (in_filter called z (left_slots f s.hosts b.step b.left) j).0 ∙ miss))
        ]

    -- the lists that are renewed
    moved_table : (told : List NodeName) (mid table : SlotTable) (keys : List ℕ) → AreRenewed f s.hosts is_other s.table told_slots told mid keys →
        AreSilent f s.hosts lefts mid table → IsTableOf f s.hosts table
    moved_table told mid table keys early silent =
        record { nodes = late.1.nodes; lists = λ k within. by k within (is_in name_eq (name_at f.names k) lefts) refl; beyond = late.1.beyond }
      where
        q : NodeName → Bool
        q y = is_other y && not (is_in name_eq y told_slots)

        late : (others : List ℕ) × AreRenewed f s.hosts q mid lefts (filter q lefts) table others
        late = silent q (renewed-anew early)

        first : (k : ℕ) → k < length f.names → is_in name_eq (name_at f.names k) lefts ≡ false → (c : Bool) →
            is_in name_eq (name_at f.names k) told_slots ≡ c → map (name_at f.names) (list_of mid k) ≡ assigned_at after (name_at f.names k)
        first k within off true i = early.renewed k within i
        first k within off false i = ap (map (name_at f.names)) (early.kept k within i) ∙ (ended.slots.table.lists k within ∙ moved k within i off)

        by : (k : ℕ) → k < length f.names → (c : Bool) → is_in name_eq (name_at f.names k) lefts ≡ c →
            map (name_at f.names) (list_of table k) ≡ assigned_at after (name_at f.names k)
        by k within true i = late.1.renewed k within i
        by k within false i = ap (map (name_at f.names)) (late.1.kept k within i) ∙ first k within i (is_in name_eq (name_at f.names k) told_slots) refl

  module _ (table : SlotTable) (keys : List ℕ) (inside : IsInside f s.hosts is_other s.table b.step b.left b.slot table keys) where
    -- where slots may have been moved around a node
    abbrev MayMoveAt : ℕ → Type 0
    MayMoveAt k = MayMove f s.hosts is_other s.table own (filter is_other own ++ bare_around f s.hosts b.step (name_at f.names k)) b.step b.left
        (name_at f.names k) table keys

    -- the table is that of the trees now
    pub inside-table : IsTableOf f s.hosts table
    inside-table = by (around_of b.step b.left) refl
      where
        at : (k : ℕ) → around_of b.step b.left ≡ Some k → MayMoveAt k → IsTableOf f s.hosts table
        at k e (inl r) = renewed-table was f s b ended stands own (none_moved r.0)
            (filter is_other own ++ bare_around f s.hosts b.step (name_at f.names k)) table keys r.1
        at k e (inr m) = moved_table k e m.0 m.1 _ m.2 table keys m.3 m.4

        by : (o : Option ℕ) → around_of b.step b.left ≡ o → IsTableOf f s.hosts table
        by None e = renewed-table was f s b ended stands own (none_around e) (filter is_other own) table keys (inside.alone e)
        by (Some k) e = at k e (inside.around k e)

    -- the keys are those of the slots that are signalled
    pub inside-keys : map (name_at f.names) keys ≡ step_signals f.names before after b.step b.left
    inside-keys = by (around_of b.step b.left) refl ∙ told-signals was f s b ended
      where
        told_at : Option ℕ → List NodeName
        told_at o = option_map_or (λ around. signalled_by is_other after (option_map (name_at f.names) b.slot) x (name_at f.names around) (is_move b.step)) o []

        at : (k : ℕ) → around_of b.step b.left ≡ Some k → MayMoveAt k → map (name_at f.names) keys ≡ told_at (Some k)
        at k e (inl r) =
            let y = name_at f.names k in
            let bare = bare_around f s.hosts b.step y in
            let more : (z : NodeName) → In z (slots_around f s.hosts b.step y) → is_other z ≡ true → is_in name_eq z own ≡ true =
            λ z i. elim (In-parts z (tree_slots f.trees y) (slots_among (subtree f.trees x)) i) [
              | inl j ↦ others-among was f s b ended stands own (none_moved r.0) (root_of f.trees y) z j
              | inr j ↦ others-among was f s b ended stands own (none_moved r.0) x z j
            ] in
            r.1.keys_are ∙ (fold-distinct (filter is_other own ++ bare) ∙ sym (own-signalled is_other own bare (slots_around f s.hosts b.step y) more))
        at k e (inr m) =
            let y = name_at f.names k in
            let bare = bare_around f s.hosts b.step y in
            let own_told : (z : NodeName) → In z own → is_other z ≡ true → In z (filter is_other own ++ bare) =
            λ z i hit. In-from z (filter is_other own ++ bare) (list_any-append (name_eq z) (filter is_other own) bare ∙
            or_left (is_in name_eq z (filter is_other own)) _ (is_in-from z (filter is_other own) (passes is_other z own i hit))) in
            m.3.keys_are
            ∙ (skipped is_other (is_called f.trees m.0) (filter is_other own ++ bare) (slots_around f s.hosts b.step y)
            (λ z i hit miss. elim (In-parts z (tree_slots f.trees y) (slots_among (subtree f.trees x)) i) [
              | inl j ↦ own_told z (other-own k e m.0 m.1 (root_of f.trees y) z j hit miss) hit
              | inr j ↦ own_told z (other-own k e m.0 m.1 x z j hit miss) hit
            ])
            ∙ fold-distinct ((filter is_other own ++ bare) ++ filter is_other (slots_around f s.hosts b.step y)))

        by : (o : Option ℕ) → around_of b.step b.left ≡ o → map (name_at f.names) keys ≡ told_at o
        by None e = (inside.alone e).keys_are ∙ ap (λ ys. fold (append_once name_eq) [] (filter is_other ys))
            (none-own was f s b ended stands (alone e).1 (alone e).2)
        by (Some k) e = at k e (inside.around k e)

    -- and nodes
    pub inside-nodes : All (λ k. k < length f.names) keys
    inside-nodes = by (around_of b.step b.left) refl
      where
        at : (k : ℕ) → MayMoveAt k → All (λ k. k < length f.names) keys
        at k (inl r) = r.1.keys_nodes
        at k (inr m) = m.3.keys_nodes

        by : (o : Option ℕ) → around_of b.step b.left ≡ o → All (λ k. k < length f.names) keys
        by None e = (inside.alone e).keys_nodes
        by (Some k) e = at k (inside.around k e)
