use Rattle.dom_base.proofs.Std.{◌≡◌, ℕ, ◌∙◌, true, inl, inr, Some, ap, sym, subst, nat_eq, on_ok_weaker}
use Rattle.dom_model.proofs.Model.{is_in, root_of, slot_name, node_in}
use Rattle.dom_tree.specs.Definitions.{name_at}
use Rattle.dom_slots.specs.Definitions.{IsMoved, Bearers, bearer_at, MayHave, name_code, SlotsNow, with_parked}
use Rattle.dom_slots.proofs.Indexed.{index-still, index-apart, index-moved}
use Rattle.dom_slots.proofs.slots.Slots.reindex.Goals as goal

pub returns-in-NoSlot-clause-indexed : goal.returns-in-NoSlot-clause-indexed
returns-in-NoSlot-clause-indexed c =
    let f = c.args.forest.now in
    let e = c.law_nodes_stand_once.ensures in
    index-still c.requires.ended.0 f (with_parked c.requires.ended.1 c.args.self.now) c.args.change c.requires.ended.2 record { once = e.once; only = e.only }
    (subst (IsMoved f c.args.self.now.hosts c.args.change) c.in-NoSlot.is c.requires.moved)

pub returns-in-Apart-clause-indexed : goal.returns-in-Apart-clause-indexed
returns-in-Apart-clause-indexed c =
    let f = c.args.forest.now in
    let e = c.law_nodes_stand_once.ensures in
    index-apart c.requires.ended.0 f (with_parked c.requires.ended.1 c.args.self.now) c.args.change c.requires.ended.2 record { once = e.once; only = e.only }
    (subst (IsMoved f c.args.self.now.hosts c.args.change) c.in-Apart.is c.requires.moved) e.distinct

pub returns-clause-indexed : goal.returns-clause-indexed
returns-clause-indexed c =
    let f = c.args.forest.now in
    let e = c.law_nodes_stand_once.ensures in
    let index = c.note_names.new.index.bearers.entries in
    let moved = subst (IsMoved f c.args.self.now.hosts c.args.change) c.in-Slots.is c.requires.moved in
    on_ok_weaker c.note_names.result
    (λ (noted : (r k : ℕ) → c.hosted_root-reached.result ≡ Some r → is_in nat_eq k c.deref-2.result.now ≡ true →
    MayHave (bearer_at index (name_code r (slot_name (node_in f.trees (name_at f.names k))))) k).
    index-moved c.requires.ended.0 f (with_parked c.requires.ended.1 c.args.self.now) c.args.change c.requires.ended.2
    record { once = e.once; only = e.only } c.in-Slots.slots.items index
    c.hosted_root-reached.result c.root.result e.distinct moved.1 moved.0 c.root.ensures.node
    (c.root.ensures.value ∙ ap (λ n. root_of f.trees (name_at f.names n)) c.node-node.ensures) c.hosted_root-reached.ensures
    (λ h k off may.
    c.note_names.ensures.kept h k (c.forget_names.ensures.kept h k (ap (is_in nat_eq k) c.deref.ensures.value ∙ off)
    (subst (λ (i : Bearers). MayHave (bearer_at i h) k) (sym (ap (λ (s : SlotsNow). s.index) c.self.view_is)) may)))
    (λ h k only. elim (c.note_names.ensures.inside h k only) [
      | inl old ↦ inl (ap (λ (s : SlotsNow). bearer_at s.index h) (sym c.self.view_is) ∙ c.forget_names.ensures.inside h k old)
      | inr i ↦ inr (ap (is_in nat_eq k) (sym c.deref-2.ensures.value) ∙ i)
    ])
    (λ r k is i. noted r k is (ap (is_in nat_eq k) c.deref-2.ensures.value ∙ i)))
    c.note_names.ensures.noted
