-- Where there are no hosts, nothing is assigned and no slot is signalled.
use Rattle.dom_base.proofs.Std.{◌≡◌, Bool, false, ◌&&◌, List, [], ◌∷◌, ◌++◌, Option, None, Some, filter, refl, sym, ap, subst, ◌∙◌, ℕ, if◌then◌else◌, is_some}
use Rattle.dom_base.proofs.Std.{option_to_list, option_map_or, none-some}
use Rattle.dom_tree.specs.Definitions.{NamedTrees, name_at}
use Rattle.dom_model.proofs.Model.{NodeName, name_eq, distinct, is_empty, is_slot_element, slot_in, slots_among, Trees, node_in, parent_of, root_of, subtree}
use Rattle.dom_slots.specs.Definitions.{ShadowTrees, shadow_trees, slot_at, assigned_at, is_changed_at, is_bare_at, signals_at, step_node, around_of, is_move}
use Rattle.dom_slots.specs.Definitions.{step_signals, SlotsNow, AreSlotsOf, host_of_root, ShadowHost, root_named}
use Rattle.std.specs.Option.{option_and_then}
use Rattle.dom_slots.specs.declared.step.Step.{Step}
use Rattle.dom_slots.proofs.Choices.{third-fails}

filter_none : (p : NodeName → Bool) → ((x : NodeName) → p x ≡ false) → (xs : List NodeName) → filter p xs ≡ []
filter_none p h [] = refl
filter_none p h (x ∷ xs) = rw (h x) (filter_none p h xs)

-- around any node
hostless-around : (names : List NodeName) (was now : Trees) (x around : NodeName) (is_move : Bool) →
    [] ≡ signals_at (shadow_trees names was []) (shadow_trees names now []) x around is_move
hostless-around names was now x around is_move =
    let s : ShadowTrees = shadow_trees names was [] in
    let t : ShadowTrees = shadow_trees names now [] in
    let p : NodeName → Bool = is_changed_at s t in
    let own = option_to_list (slot_at s x) ++ option_to_list (slot_at t x) in
    let others = slots_among (subtree now (root_of now around)) ++ slots_among (subtree now x) in
    let bare : (is_move && is_bare_at t around) ≡ false =
    third-fails is_move (is_slot_element (node_in now around))
    (is_some (t.host_of (root_of now around)) && is_empty (assigned_at t around)) refl in
    sym (ap (λ xs. distinct name_eq (xs ++ (if is_move && is_bare_at t around then around ∷ [] else []) ++ filter p others)) (filter_none p (λ y. refl) own)
    ∙ (ap (λ (b : Bool). distinct name_eq ([] ++ (if b then around ∷ [] else []) ++ filter p others)) bare
    ∙ ap (distinct name_eq) (filter_none p (λ y. refl) others)))

-- at any step
pub hostless-signals : (names : List NodeName) (was now : Trees) (step : Step) (left : Option ℕ) →
    [] ≡ step_signals names (shadow_trees names was []) (shadow_trees names now []) step left
hostless-signals names was now step left = by (around_of step left)
  where
    by : (o : Option ℕ) → [] ≡ option_map_or
        (λ around. signals_at (shadow_trees names was []) (shadow_trees names now []) (name_at names (step_node step)) (name_at names around)
        (is_move step)) o []
    by None = refl
    by (Some around) = hostless-around names was now (name_at names (step_node step)) (name_at names around) (is_move step)

-- and they stay the slots of the trees
pub hostless-slots : {was : Trees} {f : NamedTrees} {s : SlotsNow} → s.hosts ≡ [] → AreSlotsOf record { names = f.names; trees = was } s → AreSlotsOf f s
hostless-slots {was} {f} {s} none slots = record {
  hosts = slots.hosts;
  table = record {
    nodes = slots.table.nodes;
    lists = λ k within. slots.table.lists k within ∙ (ap (λ hs. assigned_at (shadow_trees f.names was hs) (name_at f.names k)) none
        ∙ sym (ap (λ hs. assigned_at (shadow_trees f.names f.trees hs) (name_at f.names k)) none));
    beyond = slots.table.beyond;
  };
  bare = λ r e. absurd ((slots.bare r e).hosted none);
  index = record {
    covered = λ r k h root within hosted. absurd (none-some h (sym (ap (λ hs. host_of_root hs r) none) ∙ hosted));
    inside = slots.index.inside;
  };
  parked = λ p is. absurd ((slots.parked p is).hosted none);
}

-- no node has a slot
pub hostless-slot : (f : NamedTrees) {hosts : List ShadowHost} → hosts ≡ [] → (x : NodeName) → None ≡ slot_at (shadow_trees f.names f.trees hosts) x
hostless-slot f none x = subst (λ hs. None ≡ slot_at (shadow_trees f.names f.trees hs) x) (sym none) (by (parent_of f.trees x))
  where
    by : (o : Option NodeName) → None ≡ option_and_then (λ r. slot_in (subtree f.trees r) (node_in f.trees x)) (option_and_then (root_named f.names []) o)
    by None = refl
    by (Some p) = refl
