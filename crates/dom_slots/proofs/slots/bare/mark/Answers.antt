use Rattle.dom_base.proofs.Std.{◌≡◌, ℕ, true, false, List, Bool, sym, ap, subst, ◌∙◌, nat_eq, if◌then◌else◌, on_ok_weaker}
use Rattle.dom_model.proofs.Model.{root_of}
use Rattle.dom_tree.specs.Definitions.{name_at}
use Rattle.dom_slots.specs.Definitions.{AreBare, is_marked, is_move, step_node}
use Rattle.dom_slots.proofs.Bare.{bare-unmoved, bare-marked, bare-spoiled, none_known}
use Rattle.dom_slots.proofs.slots.bare.mark.Goals as goal

pub returns-then-not-is_move : goal.returns-then-not-is_move
returns-then-not-is_move c =
    let f = c.args.forest.now in
    let e = c.law_nodes_stand_once.ensures in
    λ was s change is same hosted moved h.
    subst (AreBare f s.hosts) same
    (bare-unmoved was f s change h record { once = e.once; only = e.only } (ap is_move is ∙ sym c.if-not-is_move.ensures))

pub returns-then-is_nothing : goal.returns-then-is_nothing
returns-then-is_nothing c =
    let f = c.args.forest.now in
    let e = c.law_nodes_stand_once.ensures in
    let marks = c.insert.new.self.marked.items in
    λ was s change is same hosted moved h. on_ok_weaker c.insert.result
    (λ (new : (k : ℕ) → is_marked marks k ≡ (if nat_eq c.node.result k then true else is_marked c.args.bare.now.marked.items k)).
    bare-marked was f s change h record { once = e.once; only = e.only } marks
    (λ k.
    new k
    ∙ (ap (λ n. if nat_eq n k then true else is_marked c.args.bare.now.marked.items k) (c.node.ensures ∙ ap step_node (sym is))
    ∙ ap (λ (m : List Bool). if nat_eq (step_node change.step) k then true else is_marked m k) (sym same)))
    (ap is_move is ∙ sym c.if-not-is_move.ensures) hosted (none_known f s.hosts change c.args.moved.now (sym c.if-is_nothing.ensures) moved))
    c.insert.ensures.ok

pub returns : goal.returns
returns c =
    let f = c.args.forest.now in
    let e = c.law_nodes_stand_once.ensures in
    λ was s change is same hosted moved h.
    bare-spoiled was f s change h record { once = e.once; only = e.only } c.remove.new.self.marked.items c.root.result
    (λ k. c.remove.ensures k ∙ ap (λ (m : List Bool). if nat_eq c.root.result k then false else is_marked m k) (sym same)) e.distinct c.root.ensures.node
    (c.root.ensures.value ∙ ap (λ n. root_of f.trees (name_at f.names n)) (c.node-2.ensures ∙ ap step_node (sym is)))
