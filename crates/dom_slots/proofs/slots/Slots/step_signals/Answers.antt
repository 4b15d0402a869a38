use Rattle.dom_base.proofs.Std.{◌≡◌, ◌<◌, true, All, length, filter, map, sym, ap, subst, ◌∙◌, IfOk, option_map, IfOk-weaker}
use Rattle.dom_model.proofs.Model.{Trees}
use Rattle.dom_tree.specs.Definitions.{NamedTrees, name_at}
use Rattle.dom_slots.specs.Definitions.{SlotsNow, StandsOnce, IsEndOf, own_slots, IsInside, IsMoved, MovesNone, AreRenewed, shadows, shadow_trees}
use Rattle.dom_slots.specs.Definitions.{slot_at, is_changed_at, step_node, is_apart, IsTableOf, Hints, with_hints}
use Rattle.dom_slots.proofs.Apart.{apart-but-for, apart-table, apart-keys}
use Rattle.dom_slots.proofs.Ended.{listed-single, none-renewed}
use Rattle.dom_slots.proofs.Inside.{inside-but-for, inside-table, inside-keys, inside-nodes}
use Rattle.dom_slots.proofs.slots.Slots.step_signals.Goals.{After-still_signals, After-moved_signals, After-drop-slots}
use Rattle.dom_slots.proofs.slots.Slots.step_signals.Goals as goal

-- ---- a step that moved no slot

module _ (c : After-still_signals) where
  stands_still : StandsOnce c.args.forest.now
  stands_still = record { once = c.law_nodes_stand_once.ensures.once; only = c.law_nodes_stand_once.ensures.only }

  none : MovesNone c.args.forest.now c.args.self.now.hosts c.args.change.step
  none = subst (IsMoved c.args.forest.now c.args.self.now.hosts c.args.change) c.in-NoSlot.is c.requires.moved

  still : (was : Trees) (hints : Hints) → IsEndOf was c.args.forest.now (with_hints hints c.args.self.now) c.args.change → IfOk c.still_signals.result (λ keys.
      IsInside c.args.forest.now c.args.self.now.hosts (is_changed_at (shadow_trees c.args.forest.now.names was c.args.self.now.hosts)
      (shadows c.args.forest.now c.args.self.now.hosts)) c.args.self.now.table c.args.change.step c.args.change.left c.args.change.slot
      c.still_signals.new.self.table keys.items)
  still was hints h =
      c.still_signals.ensures.renewed _
      (inside-but-for was c.args.forest.now (with_hints hints c.args.self.now) c.args.change h stands_still c.law_nodes_stand_once.ensures.distinct none)
      (none-renewed was c.args.forest.now (with_hints hints c.args.self.now) c.args.change h stands_still)

pub still_signals-requires-clause-still : goal.still_signals-requires-clause-still
still_signals-requires-clause-still c = subst (IsMoved c.args.forest.now c.args.self.now.hosts c.args.change) c.in-NoSlot.is c.requires.moved

pub still_signals-requires-clause-single : goal.still_signals-requires-clause-single
still_signals-requires-clause-single c = listed-single c.requires.ended.2

pub returns-in-NoSlot-clause-value : goal.returns-in-NoSlot-clause-value
returns-in-NoSlot-clause-value c = λ was hints h. IfOk-weaker c.still_signals.result _ _
    (λ keys. inside-keys was c.args.forest.now (with_hints hints c.args.self.now) c.args.change h (stands_still c) c.still_signals.new.self.table keys.items)
    (still c was hints h)

pub returns-in-NoSlot-clause-nodes : goal.returns-in-NoSlot-clause-nodes
returns-in-NoSlot-clause-nodes c =
    let was = c.requires.ended.0 in
    let hints = c.requires.ended.1 in
    let h = c.requires.ended.2 in
    IfOk-weaker c.still_signals.result _ _
    (λ keys. inside-nodes was c.args.forest.now (with_hints hints c.args.self.now) c.args.change h (stands_still c) c.still_signals.new.self.table keys.items)
    (still c was hints h)

pub returns-in-NoSlot-clause-table : goal.returns-in-NoSlot-clause-table
returns-in-NoSlot-clause-table c =
    let was = c.requires.ended.0 in
    let hints = c.requires.ended.1 in
    let h = c.requires.ended.2 in
    let new = c.still_signals.new.self in
    IfOk-weaker c.still_signals.result _ (λ keys. IsTableOf c.args.forest.now c.args.self.now.hosts new.table)
    (λ keys r. inside-table was c.args.forest.now (with_hints hints c.args.self.now) c.args.change h (stands_still c) new.table keys.items r)
    (still c was hints h)

-- ---- a step outside of shadow trees

module _ (c : After-moved_signals) where
  abbrev f : NamedTrees
  f = c.args.forest.now

  abbrev s : SlotsNow
  s = c.args.self.now

  stands : StandsOnce c.args.forest.now
  stands = record { once = c.law_nodes_stand_once.ensures.once; only = c.law_nodes_stand_once.ensures.only }

  apart : is_apart (shadows f s.hosts) (name_at f.names (step_node c.args.change.step)) (option_map (name_at f.names) c.args.change.left) ≡ true
  apart = subst (IsMoved f s.hosts c.args.change) c.in-Apart.is c.requires.moved

  renewed : (was : Trees) (hints : Hints) → IsEndOf was f (with_hints hints s) c.args.change → IfOk c.moved_signals.result (λ keys.
      AreRenewed f s.hosts (is_changed_at (shadow_trees f.names was s.hosts) (shadows f s.hosts)) s.table
      (own_slots f s.hosts c.args.change.slot c.args.change.step) (filter (is_changed_at (shadow_trees f.names was s.hosts) (shadows f s.hosts))
      (own_slots f s.hosts c.args.change.slot c.args.change.step)) c.moved_signals.new.self.table keys.items)
  renewed was hints h =
      c.moved_signals.ensures.renewed (is_changed_at (shadow_trees f.names was s.hosts) (shadows f s.hosts)) c.args.change.step
      (sym c.node-node.ensures) (sym c.is_move-moves.ensures)
      (apart-but-for was f (with_hints hints s) c.args.change h stands apart c.law_nodes_stand_once.ensures.distinct)
      (none-renewed was f (with_hints hints s) c.args.change h stands)

pub moved_signals-requires-clause-own : goal.moved_signals-requires-clause-own
moved_signals-requires-clause-own c = c.requires.own ∙
    ap (λ k. slot_at (shadows c.args.forest.now c.args.self.now.hosts) (name_at c.args.forest.now.names k)) (sym c.node-node.ensures)

pub moved_signals-requires-clause-single : goal.moved_signals-requires-clause-single
moved_signals-requires-clause-single c = listed-single c.requires.ended.2

pub returns-in-Apart-clause-value : goal.returns-in-Apart-clause-value
returns-in-Apart-clause-value c = λ was hints h. IfOk-weaker c.moved_signals.result _ _
    (λ keys r. apart-keys was (f c) (with_hints hints (s c)) c.args.change h (stands c) (apart c) c.moved_signals.new.self.table keys.items r)
    (renewed c was hints h)

pub returns-in-Apart-clause-nodes : goal.returns-in-Apart-clause-nodes
returns-in-Apart-clause-nodes c =
    IfOk-weaker c.moved_signals.result _ _ (λ keys r. r.keys_nodes) (renewed c c.requires.ended.0 c.requires.ended.1 c.requires.ended.2)

pub returns-in-Apart-clause-table : goal.returns-in-Apart-clause-table
returns-in-Apart-clause-table c =
    let was = c.requires.ended.0 in
    let hints = c.requires.ended.1 in
    let h = c.requires.ended.2 in
    let new = c.moved_signals.new.self in
    IfOk-weaker c.moved_signals.result _ (λ keys. IsTableOf (f c) c.args.self.now.hosts new.table)
    (λ keys r. apart-table was (f c) (with_hints hints (s c)) c.args.change h (stands c) (apart c) new.table keys.items r) (renewed c was hints h)

-- ---- a step inside of one that moved or changed slots

module _ (c : After-drop-slots) where
  stands_in : StandsOnce c.args.forest.now
  stands_in = record { once = c.law_nodes_stand_once.ensures.once; only = c.law_nodes_stand_once.ensures.only }

  stirred : (was : Trees) (hints : Hints) → IsEndOf was c.args.forest.now (with_hints hints c.args.self.now) c.args.change →
      IfOk c.stirred_signals.result (λ keys. IsInside c.args.forest.now c.args.self.now.hosts
      (is_changed_at (shadow_trees c.args.forest.now.names was c.args.self.now.hosts)
      (shadows c.args.forest.now c.args.self.now.hosts)) c.args.self.now.table c.args.change.step c.args.change.left c.args.change.slot
      c.stirred_signals.new.self.table keys.items)
  stirred was hints h =
      c.stirred_signals.ensures.renewed _ c.args.self.now.table
      (none-renewed was c.args.forest.now (with_hints hints c.args.self.now) c.args.change h stands_in)

pub stirred_signals-requires-clause-moved : goal.stirred_signals-requires-clause-moved
stirred_signals-requires-clause-moved c =
    ap (map (name_at c.args.forest.now.names)) c.deref.ensures.value
    ∙ (subst (IsMoved c.args.forest.now c.args.self.now.hosts c.args.change) c.in-Slots.is c.requires.moved).0

pub stirred_signals-requires-clause-moved_nodes : goal.stirred_signals-requires-clause-moved_nodes
stirred_signals-requires-clause-moved_nodes c =
    subst (All (λ k. k < length c.args.forest.now.names)) (sym c.deref.ensures.value)
    (subst (IsMoved c.args.forest.now c.args.self.now.hosts c.args.change) c.in-Slots.is c.requires.moved).1

pub returns-in-Slots-clause-value : goal.returns-in-Slots-clause-value
returns-in-Slots-clause-value c = λ was hints h. IfOk-weaker c.stirred_signals.result _ _
    (λ keys r. inside-keys was c.args.forest.now (with_hints hints c.args.self.now) c.args.change h (stands_in c) c.stirred_signals.new.self.table keys.items r)
    (stirred c was hints h)

pub returns-in-Slots-clause-nodes : goal.returns-in-Slots-clause-nodes
returns-in-Slots-clause-nodes c =
    let was = c.requires.ended.0 in
    let hints = c.requires.ended.1 in
    let h = c.requires.ended.2 in
    IfOk-weaker c.stirred_signals.result _ _
    (λ keys. inside-nodes was c.args.forest.now (with_hints hints c.args.self.now) c.args.change h (stands_in c) c.stirred_signals.new.self.table keys.items)
    (stirred c was hints h)

pub returns-in-Slots-clause-table : goal.returns-in-Slots-clause-table
returns-in-Slots-clause-table c =
    let was = c.requires.ended.0 in
    let hints = c.requires.ended.1 in
    let h = c.requires.ended.2 in
    let new = c.stirred_signals.new.self in
    IfOk-weaker c.stirred_signals.result _ (λ keys. IsTableOf c.args.forest.now c.args.self.now.hosts new.table)
    (λ keys r. inside-table was c.args.forest.now (with_hints hints c.args.self.now) c.args.change h (stands_in c) new.table keys.items r)
    (stirred c was hints h)
