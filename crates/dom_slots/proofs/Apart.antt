-- A step that is made outside of shadow trees changes at most what is assigned to the old and to the new slot of its node,
-- and signals no others.
use Rattle.dom_base.proofs.Std.{◌≡◌, inl, inr, ℕ, ◌<◌, Bool, true, false, ◌&&◌, List, [], ◌∷◌, ◌++◌, map, filter, length, Option, None, Some, refl, sym, ap}
use Rattle.dom_base.proofs.Std.{subst, ◌∙◌, true≢false, if◌then◌else◌, is_none, is_some, option_to_list, option_map, option_map_or, ForSome, and_parts}
use Rattle.dom_base.proofs.Std.{append-nil, same_Some, none-some}
use Rattle.dom_model.proofs.Model.{NodeName, name_eq, is_in, is_empty, distinct, is_slot_element, slots_among, Trees, node_in, subtree, parent_of, root_of}
use Rattle.dom_model.proofs.Model.{placed, taken_out, with_attribute}
use Rattle.dom_tree.specs.Definitions.{NamedTrees, name_at, TellApart}
use Rattle.dom_laws.proofs.Laws.{In, In-parts, Has}
use Rattle.dom_slots.specs.Definitions.{ShadowHost, host_named, own_slots, SlotsNow, StandsOnce, IsEndOf, AreRenewed, IsButFor, shadows, shadow_trees, slot_at}
use Rattle.dom_slots.specs.Definitions.{assigned_at, is_bare_at, is_changed_at, signalled_by, StepHasNodes, step_node, is_move, around_of, left_by, IsStepFrom}
use Rattle.dom_slots.specs.Definitions.{step_signals, is_outside, is_apart, SlotTable, IsTableOf}
use Rattle.dom_slots.specs.declared.step.SlotChange.{SlotChange}
use Rattle.dom_slots.specs.declared.step.Step.{Step}
use Rattle.dom_slots.specs.declared.step.Step.TheVariants.{Place, Removal, Attribute}
use Rattle.dom_slots.proofs.Attributed.{parent-changed, changed-keeps, changed-stays}
use Rattle.dom_slots.proofs.Choices.{third-fails}
use Rattle.dom_slots.proofs.Ended.{told-signals, node-within, there-was, there-now, both-stand, not-own, none-own, but-for, others-among, renewed-table}
use Rattle.dom_slots.proofs.Moved.{IsAside, Outside, root-aside, moved-keeps}
use Rattle.dom_slots.proofs.OwnSignals.{own-signalled}
use Rattle.dom_slots.proofs.Rooted.{root-alone, root-parent}
use Rattle.dom_slots.proofs.Settled.{KeepsAssigned, assigned-kept}
use Rattle.dom_slots.proofs.Signalled.{fold-distinct}
use Rattle.dom_slots.proofs.Stepping.{removal-unparented, removal-so, place-so, place-root, attribute-name}

-- ---- the tests

none_told : {X : Type 0} (o : Option X) → is_none o ≡ true → o ≡ None
none_told None e = refl
none_told (Some x) e = absurd (true≢false (sym e))

outside_told : (names : List NodeName) (ts : Trees) (hosts : List ShadowHost) (o : Option NodeName) →
    is_outside (shadow_trees names ts hosts) o ≡ true → Outside names hosts ts o
outside_told names ts hosts None e p is = absurd (none-some p is)
outside_told names ts hosts (Some q) e p is = subst (λ z. host_named names hosts (root_of ts z) ≡ None) (same_Some q p is) (none_told _ e)

-- ---- the steps

-- a tree that is moved outside of shadow trees
abbrev AsideKept : List NodeName → List ShadowHost → NodeName → Trees → Trees → Type 0
AsideKept names hosts x was now = IsAside names hosts x was now → KeepsAssigned names hosts x was now

module _ (names : List NodeName) (hosts : List ShadowHost) (x : NodeName) (was now : Trees) (aside : IsAside names hosts x was now) (at_was : Has was x) where
  removal_keeps : now ≡ taken_out x was → KeepsAssigned names hosts x was now
  removal_keeps is = removal-so names hosts (AsideKept names hosts) (moved-keeps names hosts) x was now aside.both at_was is aside

  module _ (at_now : Has now x) (parent : NodeName) (before : Option NodeName) (is : now ≡ placed x parent before was) where
    place_keeps : KeepsAssigned names hosts x was now
    place_keeps = place-so names hosts (AsideKept names hosts) (moved-keeps names hosts) x was now aside.both at_was at_now parent before is aside

    -- and the parent is in no shadow tree
    parent_unhosted : Has now parent → host_named names hosts (root_of now parent) ≡ None
    parent_unhosted at =
        ap (host_named names hosts) (sym (place-root x was now aside.both.once_was at_was at_now parent before is aside.both.once_now at)) ∙
        root-aside aside at_now

-- who stands in no shadow tree is no slot there
not_bare : (f : NamedTrees) (hosts : List ShadowHost) (b : Bool) (y : NodeName) → host_named f.names hosts (root_of f.trees y) ≡ None →
    (b && is_bare_at (shadows f hosts) y) ≡ false
not_bare f hosts b y e =
    third-fails b (is_slot_element (node_in f.trees y)) (is_some (host_named f.names hosts (root_of f.trees y)) && is_empty (assigned_at (shadows f hosts) y))
    (ap (λ o. is_some o && is_empty (assigned_at (shadows f hosts) y)) e)

-- ---- the end of a step

module _ (was : Trees) (f : NamedTrees) (s : SlotsNow) (b : SlotChange) (ended : IsEndOf was f s b) (stands : StandsOnce f)
    (apart : is_apart (shadows f s.hosts) (name_at f.names (step_node b.step)) (option_map (name_at f.names) b.left) ≡ true) where
  abbrev x : NodeName
  x = name_at f.names (step_node b.step)

  here : Has f.trees x
  here = there-now was f s b ended stands (step_node b.step) (node-within f.names b.step ended.nodes)

  tests : (host_named f.names s.hosts x ≡ None) × Outside f.names s.hosts f.trees (option_map (name_at f.names) b.left) ×
      Outside f.names s.hosts f.trees (parent_of f.trees x)
  tests =
      let parts = and_parts (is_none (host_named f.names s.hosts x)) _ apart in
      let both = and_parts (is_outside (shadows f s.hosts) (option_map (name_at f.names) b.left)) _ parts.1 in (
        none_told _ parts.0,
        outside_told f.names f.trees s.hosts (option_map (name_at f.names) b.left) both.0,
        outside_told f.names f.trees
            s.hosts (parent_of f.trees x) both.1,
      )

  aside_from : Outside f.names s.hosts f.trees (parent_of was x) → IsAside f.names s.hosts x was f.trees
  aside_from left = record {
    both = both-stand was f s b ended stands;
    node = tests.0;
    left = left;
    parent = tests.2;
  }

  abbrev At : Step → NodeName
  At step = name_at f.names (step_node step)

  -- where the node of a step is not moved and has the slot that it had, all stays
  abbrev Still : Step → Trees → Type 0
  Still step ts =
      is_move step ≡ false → slot_at (shadow_trees f.names was s.hosts) (At step) ≡ slot_at (shadow_trees f.names ts s.hosts) (At step) →
      (y : NodeName) → Has was y → Has ts y
      → assigned_at (shadow_trees f.names was s.hosts) y ≡ assigned_at (shadow_trees f.names ts s.hosts) y

  -- all others stay where they are assigned, and the node around, where one was moved, is no slot without nodes; where there is
  -- none, the node of the step had no parent and has none
  abbrev Keeps : Step → Type 0
  Keeps step =
      KeepsAssigned f.names s.hosts (At step) was f.trees ×
      ForSome (around_of step b.left) (λ k. (is_move step && is_bare_at (shadows f s.hosts) (name_at f.names k)) ≡ false)
      × (around_of step b.left ≡ None → (parent_of was (At step) ≡ None) × (parent_of f.trees (At step) ≡ None)) × Still step f.trees

  keeps : Keeps b.step
  keeps = by b.step ended.nodes ended.step ended.begun.left tests.2 aside_from
    where
      by : (step : Step) → StepHasNodes f.names step → IsStepFrom f.names was f.trees step →
          option_map (name_at f.names) b.left ≡ left_by f.names was step
          → Outside f.names s.hosts f.trees (parent_of f.trees (At step)) →
          (Outside f.names s.hosts f.trees (parent_of was (At step)) → IsAside f.names s.hosts (At step) was f.trees) → Keeps step
      by (Place y parent before) nodes is left up aside =
          let a = aside (subst (Outside f.names s.hosts f.trees) left tests.1) in
          let y_was = there-was was f s b ended stands y nodes.0 in
          let y_now = there-now was f s b ended stands y nodes.0 in (
            place_keeps f.names s.hosts (name_at f.names y) was f.trees a y_was y_now (name_at f.names parent) (option_map (name_at f.names) before) is,
            λ k e. subst (λ j. is_bare_at (shadows f s.hosts) (name_at f.names j) ≡ false) (same_Some parent k e)
                (not_bare f s.hosts true (name_at f.names parent)
                (parent_unhosted f.names s.hosts (name_at f.names y) was f.trees a y_was y_now (name_at f.names parent)
                (option_map (name_at f.names) before) is (there-now was f s b ended stands parent nodes.1))),
            λ e. absurd (none-some parent (sym e)),
            λ no_move. absurd (true≢false no_move),
          )
      by (Removal y) nodes is left up aside =
          let a = aside (subst (Outside f.names s.hosts f.trees) left tests.1) in (
            removal_keeps f.names s.hosts (name_at f.names y) was f.trees a (there-was was f s b ended stands y nodes) is,
            λ k e. not_bare f s.hosts true (name_at f.names k) (a.left (name_at f.names k) (sym left ∙ ap (option_map (name_at f.names)) e)),
            λ e. (
              sym left ∙ ap (option_map (name_at f.names)) e,
              removal-unparented (name_at f.names y) was f.trees a.both.once_was
                  (there-was was f s b ended stands y nodes) is,
            ),
            λ no_move. absurd (true≢false no_move),
          )
      by (Attribute y) nodes is left up aside =
          let z = name_at f.names y in
          let g = with_attribute is.0 is.1 in
          let same : parent_of f.trees z ≡ parent_of was z = ap (λ ts. parent_of ts z) is.2 ∙ parent-changed z g (attribute-name is.0 is.1) was z in
          let a = subst (IsAside f.names s.hosts z was) is.2 (aside (subst (Outside f.names s.hosts f.trees) same up)) in (
            subst (KeepsAssigned f.names s.hosts z was) (sym is.2)
                (changed-keeps z g (attribute-name is.0 is.1) f.names s.hosts was a.both a (there-was was f s b ended stands y nodes)
                (subst (λ (ts : Trees). Has ts z) is.2 (there-now was f s b ended stands y nodes))),
            λ k e. refl,
            λ e. absurd (none-some y (sym e)),
            subst (Still (Attribute y)) (sym is.2) (λ _ same v h i.
                changed-stays z g (attribute-name is.0 is.1) f.names s.hosts was a.both a (there-was was f s b ended stands y nodes)
                (subst (λ (ts : Trees). Has ts z) is.2 (there-now was f s b ended stands y nodes)) v h i
                (ap (λ o. is_in name_eq v (option_to_list o)) same)),
          )

  -- the root of the node is no shadow root
  pub apart-root : host_named f.names s.hosts (root_of f.trees x) ≡ None
  apart-root = by (parent_of f.trees x) refl
    where
      by : (o : Option NodeName) → parent_of f.trees x ≡ o → host_named f.names s.hosts (root_of f.trees x) ≡ None
      by None e = ap (host_named f.names s.hosts) (root-alone f.trees x here e) ∙ tests.0
      by (Some p) e = ap (host_named f.names s.hosts) (root-parent f.trees (both-stand was f s b ended stands).once_now x p here e) ∙ tests.2 p e

  abbrev own : List NodeName
  own = own_slots f s.hosts b.slot b.step

  -- what is assigned to a node that is none of the own slots is what was
  apart-stays : (k : ℕ) → k < length f.names → is_in name_eq (name_at f.names k) own ≡ false →
      assigned_at (shadow_trees f.names was s.hosts) (name_at f.names k) ≡ assigned_at (shadows f s.hosts) (name_at f.names k)
  apart-stays k within other =
      let none = not-own was f s b ended stands (name_at f.names k) other in
      let both = both-stand was f s b ended stands in
      assigned-kept f.names s.hosts was f.trees both.once_was both.once_now x (name_at f.names k) none.0 none.1
      (keeps.0 (name_at f.names k) (there-was was f s b ended stands k within) (there-now was f s b ended stands k within))

  -- before the first list is renewed all are those of the trees now but for the node of the step
  pub apart-but-for : TellApart f.names → IsButFor f s.hosts s.table b.slot b.step
  apart-but-for distinct = but-for was f s b ended stands distinct keeps.0 keeps.3

  abbrev is_other : NodeName → Bool
  is_other = is_changed_at (shadow_trees f.names was s.hosts) (shadows f s.hosts)

  -- no others are signalled
  apart-signals : distinct name_eq (filter is_other own) ≡ step_signals f.names (shadow_trees f.names was s.hosts) (shadows f s.hosts) b.step b.left
  apart-signals = by (around_of b.step b.left) refl ∙ told-signals was f s b ended
    where
      by : (o : Option ℕ) → around_of b.step b.left ≡ o
          → distinct name_eq (filter is_other own) ≡ option_map_or
          (λ around. signalled_by is_other (shadows f s.hosts) (option_map (name_at f.names) b.slot) x (name_at f.names around)
          (is_move b.step)) o []
      by None e = let up = keeps.2 e in ap (λ ys. distinct name_eq (filter is_other ys)) (none-own was f s b ended stands up.0 up.1)
      by (Some k) e =
          let y = name_at f.names k in
          let bare = if is_move b.step && is_bare_at (shadows f s.hosts) y then y ∷ [] else [] in
          let others = slots_among (subtree f.trees (root_of f.trees y)) ++ slots_among (subtree f.trees x) in
          let more : (z : NodeName) → In z others → is_other z ≡ true → is_in name_eq z own ≡ true =
          λ z i. elim (In-parts z (slots_among (subtree f.trees (root_of f.trees y))) (slots_among (subtree f.trees x)) i) [
            | inl j ↦ others-among was f s b ended stands own apart-stays (root_of f.trees y) z j
            | inr j ↦ others-among was f s b ended stands own apart-stays x z j
          ] in
          let none : bare ≡ [] = ap (λ (c : Bool). if c then y ∷ [] else []) (keeps.1 k e) in
          sym (own-signalled is_other own bare others more ∙
          (ap (λ ys. distinct name_eq (filter is_other own ++ ys)) none ∙ ap (distinct name_eq) (append-nil (filter is_other own))))

  -- ---- the lists that are renewed

  module _ (table : SlotTable) (keys : List ℕ) (r : AreRenewed f s.hosts is_other s.table own (filter is_other own) table keys) where
    -- behind the last the table is that of the trees now
    pub apart-table : IsTableOf f s.hosts table
    apart-table = renewed-table was f s b ended stands own apart-stays (filter is_other own) table keys r

    -- and the keys are those of the slots that are signalled
    pub apart-keys : map (name_at f.names) keys ≡ step_signals f.names (shadow_trees f.names was s.hosts) (shadows f s.hosts) b.step b.left
    apart-keys = r.keys_are ∙ (fold-distinct (filter is_other own) ∙ apart-signals)
