use Rattle.dom_base.proofs.Std.{◌≡◌, ℕ, ◌<◌, ◌+◌, ◌∷◌, [], Bool, true, false, List, All, map, drop, length, refl, sym, ap, subst, ◌∙◌, if◌then◌else◌, take_all}
use Rattle.dom_base.proofs.Std.{drop_more, All-nil}
use Rattle.dom_model.proofs.Model.{text_eq, slot_name, node_in}
use Rattle.dom_tree.specs.Definitions.{NamedTrees, name_at}
use Rattle.dom_slots.specs.Definitions.{ShadowHost, Renews, shadows, assigned_at, waiting_under, Serves}
use Rattle.dom_slots.proofs.Renewing.{renews-none, renews-next}
use Rattle.dom_slots.proofs.slots.Slots.renew_waiting.Goals as goal

-- a slot is served, and then those behind it
module _ (f : NamedTrees) (hosts : List ShadowHost) (slots : List ℕ) (i s : ℕ) (at : drop i slots ≡ s ∷ drop (i + 1) slots) (now next : List ℕ → List ℕ)
    (name : List ℕ) (is : name ≡ slot_name (node_in f.trees (name_at f.names s))) (serves : Serves f hosts now (drop i slots)) where
  abbrev both : Serves f hosts now (s ∷ drop (i + 1) slots)
  both = subst (Serves f hosts now) at serves

  its-list : (list : List ℕ) → list ≡ now name → map (name_at f.names) list ≡ assigned_at (shadows f hosts) (name_at f.names s)
  its-list list e = ap (map (name_at f.names)) (e ∙ ap now is) ∙ both.0

  then-others : ((other : List ℕ) → next other ≡ (if text_eq name other then [] else now other)) → Serves f hosts next (drop (i + 1) slots)
  then-others e =
      let same : (λ (other : List ℕ). if text_eq (slot_name (node_in f.trees (name_at f.names s))) other then [] else now other) ≡ next =
      λ j other. sym (e other ∙ ap (λ a. if text_eq a other then [] else now other) is) j in
      subst (λ (w : List ℕ → List ℕ). Serves f hosts w (drop (i + 1) slots)) same both.1

-- those that wait stay nodes
nodes-stay : (n : ℕ) (b : Bool) (was now : List ℕ) → now ≡ (if b then [] else was) → All (λ k. k < n) was → All (λ k. k < n) now
nodes-stay n true was now e all = subst (All (λ k. k < n)) (sym e) (All-nil (λ k. k < n))
nodes-stay n false was now e all = subst (All (λ k. k < n)) (sym e) all

pub loop-slot-init : goal.loop-slot-init
loop-slot-init c = record {
  hosts = refl;
  hints = refl;
  renewed = renews-none;
  served = c.requires.served;
  nodes = c.requires.waiting_nodes;
}

pub renew_as-requires-clause-right : goal.renew_as-requires-clause-right
renew_as-requires-clause-right c =
    let f = c.args.forest.now in
    let slots = c.args.slots.now in
    let i = c.loop-slot.slot-index in
    let s = c.slot-item.result in
    let at : drop i slots ≡ s ∷ drop (i + 1) slots =
    drop_more slots i s c.loop-slot-test.true ∙ ap (λ k. k ∷ drop (i + 1) slots) (sym c.slot-item.is) in
    its-list f c.args.self.now.hosts slots i s at (waiting_under c.loop-slot.waiting) (waiting_under c.take-list.new.self) c.slot_name.result.now
    c.slot_name.ensures c.loop-slot.invariant.served c.take-list.result.items c.take-list.ensures.list
    ∙ ap (λ hs. assigned_at (shadows f hs) (name_at f.names s)) (sym c.loop-slot.invariant.hosts)

pub renew_as-requires-clause-nodes : goal.renew_as-requires-clause-nodes
renew_as-requires-clause-nodes c =
    subst (All (λ k. k < length c.args.forest.now.names)) (sym c.take-list.ensures.list) (c.loop-slot.invariant.nodes c.slot_name.result.now)

pub loop-slot-preserved : goal.loop-slot-preserved
loop-slot-preserved c =
    let f = c.args.forest.now in
    let slots = c.args.slots.now in
    let i = c.loop-slot.slot-index in
    let s = c.slot-item.result in
    let at : drop i slots ≡ s ∷ drop (i + 1) slots =
    drop_more slots i s c.loop-slot-test.true ∙ ap (λ k. k ∷ drop (i + 1) slots) (sym c.slot-item.is) in
    record {
      hosts = c.in_ok-renew_as.ensures.hosts ∙ c.loop-slot.invariant.hosts;
      hints = c.in_ok-renew_as.ensures.hints ∙ c.loop-slot.invariant.hints;
      renewed = renews-next slots i s c.slot-item.is c.loop-slot-test.true c.loop-slot.invariant.hosts c.loop-slot.invariant.renewed
          c.in_ok-renew_as.ensures.renewed;
      served = then-others f c.args.self.now.hosts slots i s at (waiting_under c.loop-slot.waiting) (waiting_under c.take-list.new.self)
          c.slot_name.result.now c.slot_name.ensures c.loop-slot.invariant.served c.take-list.ensures.others;
      nodes = λ name.
          nodes-stay (length f.names) (text_eq c.slot_name.result.now name) (waiting_under c.loop-slot.waiting name)
          (waiting_under c.take-list.new.self name) (c.take-list.ensures.others name) (c.loop-slot.invariant.nodes name);
    }

pub returns-clause-renewed : goal.returns-clause-renewed
returns-clause-renewed c =
    subst (λ ks. Renews c.args.forest.now c.args.self.now.hosts (map (name_at c.args.forest.now.names) ks) c.args.self.now.table
    c.args.signals.now.items c.loop-slot.self.table c.loop-slot.signals.items)
    (take_all c.loop-slot.slot-index c.args.slots.now c.loop-slot-test.false) c.loop-slot.invariant.renewed
