use Rattle.dom_base.proofs.Std.{◌≡◌, ◌<◌, ◌&&◌, ◌∷◌, ◌++◌, Bool, All, length, map, sym, ap, subst, ◌∙◌, arith, filter, option_map, append-nil}
use Rattle.dom_model.proofs.Model.{NodeName, name_eq, items_after, slot_name, node_in, children_of}
use Rattle.dom_tree.specs.Definitions.{name_at}
use Rattle.dom_laws.proofs.Laws.{parent-of_child, filter-none}
use Rattle.dom_tree.proofs.Standing.{Once-forest, Has-forest}
use Rattle.dom_slots.specs.Definitions.{shadows, is_assigned_at, looks_for}
use Rattle.dom_slots.proofs.Firsts.{assigned-first}
use Rattle.dom_slots.proofs.Siblings.{from_item, first_step, goes-on}
use Rattle.dom_slots.proofs.Walks.{collect-yes, collect-no}
use Rattle.dom_slots.proofs.slots.Slots.assigned_under.Goals as goal
use Rattle.dom_slots.proofs.slots.Slots.assigned_under.Goals.{then-looks_for+in_ok-push, else-looks_for}

pub loop-at-init : goal.loop-at-init
loop-at-init c =
    let f = c.args.forest.now in
    let h = name_at f.names c.args.host in
    let e = c.law_nodes_stand_once.ensures in
    let test : NodeName → Bool = is_assigned_at (shadows f c.args.self.now.hosts) (name_at f.names c.args.slot) in
    let step = first_step f (Once-forest f e.once e.only) h (Has-forest f e.once c.args.host c.requires.host_is_node) c.first-at.result
    c.first-at.ensures.value c.first-at.ensures.node in
    record {
      child = step.1;
      nodes = subst (All (λ j. j < length f.names)) (sym c.new-keys.ensures.items) (λ k d i. absurd (omega arith));
      left = ap (λ ks. map (name_at f.names) ks ++
          filter test (from_item (children_of f.trees h) (option_map (name_at f.names) c.first-at.result))) c.new-keys.ensures.items ∙
          ap (filter test) step.0;
    }

pub looks_for-requires : goal.looks_for-requires
looks_for-requires c = (c.loop-at.invariant.child c.in-Some.child c.in-Some.is).node

pub next-at-requires : goal.next-at-requires
next-at-requires c = (c.loop-at.invariant.child c.in-Some.child c.in-Some.is).node

pub loop-at-smaller : goal.loop-at-smaller
loop-at-smaller c =
    let e = c.law_nodes_stand_once.ensures in
    (goes-on c.args.forest.now e.once e.only c.args.host c.requires.host_is_node c.in-Some.is c.loop-at.invariant.child c.next-at.ensures.value
    c.next-at.ensures.node).less

pub loop-at-preserved : goal.loop-at-preserved
loop-at-preserved c =
    let f = c.args.forest.now in
    let e = c.law_nodes_stand_once.ensures in
    let k = c.in-Some.child in
    let node = (c.loop-at.invariant.child k c.in-Some.is).node in
    let h = name_at f.names c.args.host in
    let step = goes-on f e.once e.only c.args.host c.requires.host_is_node c.in-Some.is c.loop-at.invariant.child c.next-at.ensures.value
    c.next-at.ensures.node in
    let test : NodeName → Bool = is_assigned_at (shadows f c.args.self.now.hosts) (name_at f.names c.args.slot) in
    let all = filter test (children_of f.trees h) in
    let xs = items_after name_eq (name_at f.names k) (children_of f.trees h) in
    let left : map (name_at f.names) c.loop-at.keys.items ++ filter test (name_at f.names k ∷ xs) ≡ all =
    ap (λ o. map (name_at f.names) c.loop-at.keys.items ++ filter test (from_item (children_of f.trees h) (option_map (name_at f.names) o)))
    (sym c.in-Some.is) ∙ c.loop-at.invariant.left in
    let new = c.if-looks_for.keys.items in
    let s = shadows f c.args.self.now.hosts in
    let y = name_at f.names c.args.slot in
    let own = slot_name (node_in f.trees y) in
    let n = node_in f.trees (name_at f.names k) in
    let tested : looks_for c.slot_name-name.result.now n ≡ test (name_at f.names k) =
    ap (λ a. looks_for a n) c.slot_name-name.ensures
    ∙ (ap (λ b. b && looks_for own n) c.if-not-is_first.ensures
    ∙ sym (assigned-first s (Once-forest f e.once e.only) h y (name_at f.names k) (c.loop-at.invariant.child k c.in-Some.is).parent)) in
    let is : All (λ j. j < length f.names) new × (map (name_at f.names) new ++ filter test xs ≡ all) = elim c.if-looks_for.branch [
      | then-looks_for+in_ok-push w ↦
          collect-yes f.names test c.loop-at.keys.items k node xs all c.loop-at.invariant.nodes left new
          (ap (λ v. v.items) w.keys-is ∙ w.in_ok-push.ensures.items) (sym (w.if-looks_for.ensures ∙ tested))
      | else-looks_for w ↦ collect-no f.names test c.loop-at.keys.items k node xs all c.loop-at.invariant.nodes left new
          (ap (λ v. v.items) w.keys-is) (sym (w.if-looks_for.ensures ∙ tested))
    ] in
    record { child = step.child; nodes = is.0; left = ap (λ ys. map (name_at f.names) new ++ filter test ys) (sym step.left) ∙ is.1 }

pub returns-clause-value : goal.returns-clause-value
returns-clause-value c =
    let f = c.args.forest.now in
    let h = name_at f.names c.args.host in
    let test : NodeName → Bool = is_assigned_at (shadows f c.args.self.now.hosts) (name_at f.names c.args.slot) in
    sym (append-nil (map (name_at f.names) c.loop-at.keys.items))
    ∙ (ap (λ o. map (name_at f.names) c.loop-at.keys.items ++ filter test (from_item (children_of f.trees h) (option_map (name_at f.names) o)))
    (sym c.in_default.is) ∙ c.loop-at.invariant.left)

pub returns-then-not-is_first-clause-value : goal.returns-then-not-is_first-clause-value
returns-then-not-is_first-clause-value c =
    let f = c.args.forest.now in
    let s = shadows f c.args.self.now.hosts in
    let h = name_at f.names c.args.host in
    let y = name_at f.names c.args.slot in
    let e = c.law_nodes_stand_once.ensures in
    let once = Once-forest f e.once e.only in
    let own = slot_name (node_in f.trees y) in
    ap (map (name_at f.names)) c.new-keys.ensures.items
    ∙ sym (filter-none (is_assigned_at s y) (children_of f.trees h)
    (λ x i.
    assigned-first s once h y x (parent-of_child f.trees h x once (Has-forest f e.once c.args.host c.requires.host_is_node) i).0
    ∙ ap (λ b. b && looks_for own (node_in f.trees x)) (sym c.if-not-is_first.ensures)))
