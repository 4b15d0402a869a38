-- What the end of a step signals, and what stands before and after it.
use Rattle.dom_base.proofs.Std.{◌≡◌, ℕ, ◌<◌, Bool, true, false, not, List, [], ◌++◌, None, Some, map, length, refl, sym, ap, subst, ◌∙◌, true≢false}
use Rattle.dom_base.proofs.Std.{option_to_list, option_map, option_map_or, option_and_then, or_parts, true_from_ne_false, All-nil, list_any-append}
use Rattle.dom_base.proofs.Std.{get_or_from_slice_get, slice_get_within}
use Rattle.dom_model.proofs.Model.{NodeName, Page, name_eq, is_in, list_eq, node_of, slot_in, slots_among, Trees, node_in, has_node, subtree, parent_of}
use Rattle.dom_tree.specs.Definitions.{NamedTrees, name_at, TellApart}
use Rattle.dom_tree.proofs.Standing.{Once-forest, Has-forest}
use Rattle.dom_laws.proofs.Laws.{In, Has}
use Rattle.dom_slots.specs.Definitions.{ShadowHost, own_slots, SlotsNow, StandsOnce, AreSlotsOf, IsBegun, IsEndOf, AreRenewed, IsButFor, names_but, ShadowTrees}
use Rattle.dom_slots.specs.Definitions.{shadows, shadow_trees, slot_at, assigned_at, is_assigned_at, is_changed_at, signalled_by, StepHasNodes, IsStepFrom}
use Rattle.dom_slots.specs.Definitions.{step_node, around_of, is_move, step_signals, SlotTable, list_of, IsTableOf, IsSingle}
use Rattle.dom_slots.specs.declared.step.SlotChange.{SlotChange}
use Rattle.dom_slots.specs.declared.step.Step.{Step}
use Rattle.dom_slots.specs.declared.step.Step.TheVariants.{Place, Removal, Attribute}
use Rattle.dom_slots.proofs.Assigned.{listed-slot, single-listed}
use Rattle.dom_slots.proofs.Hosted.{named-key, host-key}
use Rattle.dom_slots.proofs.Moved.{AreBoth}
use Rattle.dom_slots.proofs.Settled.{KeepsBut}
use Rattle.dom_slots.proofs.Signalled.{list_eq-self}
use Rattle.dom_slots.proofs.TreeSlots.{slot-stands}

-- the node of a step is a node
pub node-within : (names : List NodeName) (step : Step) → StepHasNodes names step → step_node step < length names
node-within names (Place x parent before) nodes = nodes.0
node-within names (Removal x) nodes = nodes
node-within names (Attribute x) nodes = nodes

-- what is signalled around a node, by the tables
abbrev pub told_by : NamedTrees → List ShadowHost → (NodeName → Bool) → SlotChange → List NodeName
told_by f hosts p b =
    option_map_or (λ around. signalled_by p (shadows f hosts) (option_map (name_at f.names) b.slot) (name_at f.names (step_node b.step))
    (name_at f.names around) (is_move b.step)) (around_of b.step b.left) []

-- is what the step signals
pub told-signals : (was : Trees) (f : NamedTrees) (s : SlotsNow) (b : SlotChange) → IsEndOf was f s b
    → told_by f s.hosts (is_changed_at (shadow_trees f.names was s.hosts) (shadows f s.hosts)) b ≡ step_signals f.names
    (shadow_trees f.names was s.hosts) (shadows f s.hosts) b.step b.left
told-signals was f s b h =
    let p = is_changed_at (shadow_trees f.names was s.hosts) (shadows f s.hosts) in
    ap (λ slot. option_map_or (λ around. signalled_by p (shadows f s.hosts) slot (name_at f.names (step_node b.step)) (name_at f.names around)
    (is_move b.step)) (around_of b.step b.left) []) h.begun.slot

-- a step that was begun and done, and nothing else, is at its end
pub step-ends : {old new : NamedTrees} {s : SlotsNow} {step : Step} {b : SlotChange} → b.step ≡ step → new.names ≡ old.names →
    StepHasNodes old.names step → AreSlotsOf old s → IsBegun old s.hosts b → IsStepFrom old.names old.trees new.trees step →
    IsEndOf old.trees new s b
step-ends {old} {new} {s} {step} {b} same names nodes slots begun moved =
    let there : record { names = old.names; trees = new.trees } ≡ new = λ j. record { names = sym names j; trees = new.trees } in
    subst (λ f. IsEndOf old.trees f s b) there record {
      begun = begun;
      nodes = subst (StepHasNodes old.names) (sym same) nodes;
      step = subst (λ t. IsStepFrom old.names old.trees new.trees t) (sym same) moved;
      slots = slots;
    }

-- no node stands in the list of its old slot twice
pub listed-single : {was : Trees} {f : NamedTrees} {s : SlotsNow} {b : SlotChange} → IsEndOf was f s b → (k : ℕ) → b.slot ≡ Some k →
    IsSingle (list_of s.table k)
listed-single {was} {f} h k e =
    let before : NamedTrees = record { names = f.names; trees = was } in
    single-listed before (Once-forest before h.begun.stands.once h.begun.stands.only) h.slots.table k (h.begun.slot_node k e)

-- ---- before and after a step

module _ (was : Trees) (f : NamedTrees) (s : SlotsNow) (b : SlotChange) (ended : IsEndOf was f s b) (stands : StandsOnce f) where
  abbrev x : NodeName
  x = name_at f.names (step_node b.step)

  abbrev before : ShadowTrees
  before = shadow_trees f.names was s.hosts

  abbrev after : ShadowTrees
  after = shadows f s.hosts

  abbrev own : List NodeName
  own = own_slots f s.hosts b.slot b.step

  abbrev pub is-other : NodeName → Bool
  is-other = is_changed_at before after

  pub there-was : (k : ℕ) → k < length f.names → Has was (name_at f.names k)
  there-was k within = Has-forest record { names = f.names; trees = was } ended.begun.stands.once k within

  pub there-now : (k : ℕ) → k < length f.names → Has f.trees (name_at f.names k)
  there-now k within = Has-forest f stands.once k within

  pub both-stand : AreBoth f.names s.hosts was f.trees
  both-stand = record {
    once_was = Once-forest record { names = f.names; trees = was } ended.begun.stands.once ended.begun.stands.only;
    once_now = Once-forest f stands.once stands.only;
    stands = λ r h e. let w = host-key f.names s.hosts ended.slots.hosts r h e in
        (subst (Has was) w.2 (there-was w.0 w.1), subst (Has f.trees) w.2 (there-now w.0 w.1));
  }

  -- what is none of the own slots had the node not assigned to it, and has not
  pub not-own : (y : NodeName) → is_in name_eq y own ≡ false → (is_assigned_at before y x ≡ false) × (is_assigned_at after y x ≡ false)
  not-own y other =
      let parts : (is_in name_eq y (option_to_list (option_map (name_at f.names) b.slot)) ≡ false) ×
      (is_in name_eq y (option_to_list (slot_at after x)) ≡ false) =
      or_parts _ _ (sym (list_any-append (name_eq y) (option_to_list (option_map (name_at f.names) b.slot)) (option_to_list (slot_at after x))) ∙ other) in
      (ap (λ o. is_in name_eq y (option_to_list o)) (sym ended.begun.slot) ∙ parts.0, parts.1)

  -- a node that had no parent and has none has no own slots
  pub none-own : parent_of was x ≡ None → parent_of f.trees x ≡ None → own ≡ []
  none-own up_was up_now =
      let none_was : option_to_list (option_map (name_at f.names) b.slot) ≡ [] =
      ap option_to_list (ended.begun.slot
      ∙ ap (λ o. option_and_then (λ r. slot_in (subtree was r) (node_in was x)) (option_and_then before.shadow_of o)) up_was) in
      let none_now : option_to_list (slot_at after x) ≡ [] =
      ap (λ o. option_to_list (option_and_then (λ r. slot_in (subtree f.trees r) (node_in f.trees x))
      (option_and_then after.shadow_of o))) up_now in
      ap (λ ys. ys ++ option_to_list (slot_at after x)) none_was ∙ none_now

  -- where all others than the node stay where they are assigned, and the node too if it is not moved and has the slot that it
  -- had, the lists are those of the trees now but for the node
  pub but-for : TellApart f.names → ((y : NodeName) → Has was y → Has f.trees y → KeepsBut f.names s.hosts x was f.trees y)
      → (is_move b.step ≡ false → slot_at before x ≡ slot_at after x → (y : NodeName) → Has was y → Has f.trees y →
      assigned_at before y ≡ assigned_at after y) → IsButFor f s.hosts s.table b.slot b.step
  but-for distinct kept still = record {
    others = λ k within. ap (names_but x) (ended.slots.table.lists k within) ∙ kept (name_at f.names k) (there-was k within) (there-now k within);
    listed = λ k within i.
        named-key f.names distinct b.slot ended.begun.slot_node k within
        (ended.begun.slot ∙ sym (listed-slot record { names = f.names; trees = was } s.hosts s.table ended.slots.table (step_node b.step) k i));
    stays = λ unmoved same k within.
        ended.slots.table.lists k within ∙ still unmoved (sym ended.begun.slot ∙ same) (name_at f.names k) (there-was k within) (there-now k within);
  }

  -- before the first list is renewed
  pub none-renewed : AreRenewed f s.hosts is-other s.table [] [] s.table []
  none-renewed = record {
    others = λ k within. ap (λ xs. not (list_eq name_eq xs (assigned_at after (name_at f.names k)))) (sym (ended.slots.table.lists k within));
    renewed = λ k within i. absurd (true≢false (sym i));
    kept = λ k within i. refl;
    nodes = ended.slots.table.nodes;
    beyond = ended.slots.table.beyond;
    keys_nodes = All-nil (λ k. k < length f.names);
    keys_are = refl;
    among = λ y i. absurd (true≢false (sym i));
  }

  -- where what is assigned to all but these slots stays
  module _ (slots : List NodeName) (stays : (k : ℕ) → k < length f.names → is_in name_eq (name_at f.names k) slots ≡ false →
      assigned_at before (name_at f.names k) ≡ assigned_at after (name_at f.names k)) where
    -- those whose nodes are others are among them
    other-among : (y : NodeName) → has_node f.trees y ≡ true → is-other y ≡ true → is_in name_eq y slots ≡ true
    other-among y h other =
        let found = stands.only y h in
        let named : name_at f.names found.0 ≡ y = get_or_from_slice_get f.names found.0 y (node_of Page 0) found.1 in
        true_from_ne_false (is_in name_eq y slots)
        (λ off. true≢false (sym other ∙ (subst (λ z. is-other z ≡ false) named
        (ap (λ xs. not (list_eq name_eq xs (assigned_at after (name_at f.names found.0))))
        (stays found.0 (slice_get_within f.names found.0 y found.1) (ap (λ z. is_in name_eq z slots) named ∙ off))
        ∙ ap not (list_eq-self (assigned_at after (name_at f.names found.0)))))))

    pub others-among : (top y : NodeName) → In y (slots_among (subtree f.trees top)) → is-other y ≡ true → is_in name_eq y slots ≡ true
    others-among top y i = other-among y (slot-stands f both-stand.once_now top y i)

    -- where the lists of these are renewed the table is that of the trees now
    pub renewed-table : (told : List NodeName) (table : SlotTable) (keys : List ℕ) → AreRenewed f s.hosts is-other s.table slots told table keys →
        IsTableOf f s.hosts table
    renewed-table told table keys r = record {
      nodes = r.nodes;
      lists = λ k within. by k within (is_in name_eq (name_at f.names k) slots) refl;
      beyond = r.beyond;
    }
      where
        by : (k : ℕ) → k < length f.names → (b : Bool) → is_in name_eq (name_at f.names k) slots ≡ b →
            map (name_at f.names) (list_of table k) ≡ assigned_at after (name_at f.names k)
        by k within true i = r.renewed k within i
        by k within false i = ap (map (name_at f.names)) (r.kept k within i) ∙ (ended.slots.table.lists k within ∙ stays k within i)
