use Rattle.dom_range_ops.proofs.Cited.{◌≡◌, ◌<◌, ℕ, Bool, false, List, length, refl, sym, ap, subst, ◌∙◌, on_ok_weaker, Kind, NodeName, observed, remove_plan}
use Rattle.dom_range_ops.proofs.Cited.{has_node, has_data, is_shadow, kind_of, part_of, leads-removing, DocState, name_in, owner_in, planned, trees_in, IsAlone}
use Rattle.dom_range_ops.proofs.Cited.{AreReady, Stays, may_now, child_now, name_at, keeps-removing, own_moves}
use Rattle.dom_range_ops.proofs.InsertedParts.{kind-kept}
use Rattle.dom_range_ops.proofs.InsertedPlans.{state-is, stays-left, inserted-at}
use Rattle.dom_range_ops.proofs.inserting.insert_at.Goals.{In_ok-remove}
use Rattle.dom_range_ops.proofs.inserting.insert_at.Goals as goal

-- the owner is alone in its part
alone : (c : In_ok-remove) → IsAlone c.args.doc.now.world c.args.owner
alone c = subst (IsAlone c.args.doc.now.world) c.requires.parent_own (c.laws.ensures.alone c.args.parent c.requires.parent_is_node)

-- the node left its parent
removed : (c : In_ok-remove) →
    c.remove.new.self ≡ planned (owner_in c.args.doc.now c.args.node) (remove_plan observed (name_in c.args.doc.now c.args.node)) c.args.doc.now
removed c = state-is c.args.doc.now c.remove.new.self (owner_in c.args.doc.now c.args.node) (remove_plan observed (name_in c.args.doc.now c.args.node))
    c.in_ok-remove.ensures.names c.in_ok-remove.ensures.world

-- and the parent and the reference stay what they are
stays : (c : In_ok-remove) → Stays c.args.parent c.reference_child-reference.result c.args.doc.now c.remove.new.self
stays c =
    stays-left c.args.doc.now c.remove.new.self c.laws.ensures.once c.args.parent c.args.node c.reference_child-reference.result
    (c.laws.ensures.alone c.args.node c.requires.node_is_node) (c.requires.node_own ∙ sym c.requires.parent_own) c.requires.not_above
    c.reference_child-reference.ensures.child c.reference_child-reference.ensures.apart (removed c)

-- a test of kinds that a node of the owner did not pass it does not pass now
kind_now : (c : In_ok-remove) (is : Kind → Bool) (key : ℕ) → key < length c.args.doc.now.names → owner_in c.args.doc.now key ≡ c.args.owner →
    is (kind_of (trees_in c.args.doc.now key) (name_in c.args.doc.now key)) ≡ false →
    is (kind_of (trees_in c.remove.new.self key) (name_in c.remove.new.self key)) ≡ false
kind_now c is key there own plain =
    let d = c.args.doc.now in
    let o = c.args.owner in
    let x = name_in d c.args.node in
    kind-kept d c.remove.new.self o (remove_plan observed x) (alone c) (keeps-removing (own_moves o) observed x)
    (ap (λ s. s.world) (removed c ∙ ap (λ w. planned w (remove_plan observed x) d) c.requires.node_own)) is
    (leads-removing observed x (part_of d.world o) (c.laws.ensures.parts o)).changed key
    (ap (λ (ns : List NodeName). name_at ns key) c.in_ok-remove.ensures.names, own)
    (ap (λ w. has_node (part_of d.world w).trees (name_in d key)) (sym own) ∙ c.laws.ensures.stand key there)
    (ap (λ w. is (kind_of (part_of d.world w).trees (name_in d key))) (sym own) ∙ plain)

pub insert_before-requires-clause-open : goal.insert_before-requires-clause-open
insert_before-requires-clause-open c =
    kind_now (goal.at.insert_before-requires-clause-open c).In_ok-remove has_data c.args.parent c.requires.parent_is_node c.requires.parent_own
    c.requires.open

pub insert_before-requires-clause-no_shadow : goal.insert_before-requires-clause-no_shadow
insert_before-requires-clause-no_shadow c =
    kind_now (goal.at.insert_before-requires-clause-no_shadow c).In_ok-remove is_shadow c.args.node c.requires.node_is_node c.requires.node_own
    c.requires.no_shadow

pub insert_before-requires-clause-may_move : goal.insert_before-requires-clause-may_move
insert_before-requires-clause-may_move c =
    may_now c.args.parent c.reference_child-reference.result c.args.doc.now c.remove.new.self
    (stays (goal.at.insert_before-requires-clause-may_move c).In_ok-remove) c.args.node (record {
      node = c.requires.node_is_node;
      owner = c.requires.node_own ∙ sym c.requires.parent_own;
      not_above = c.requires.not_above;
      apart = c.reference_child-reference.ensures.apart;
    })

pub insert_before-requires-clause-child_is_child : goal.insert_before-requires-clause-child_is_child
insert_before-requires-clause-child_is_child c =
    child_now c.args.parent c.reference_child-reference.result c.args.doc.now c.remove.new.self
    (stays (goal.at.insert_before-requires-clause-child_is_child c).In_ok-remove) c.reference_child-reference.ensures.child

pub insert_before-requires-clause-ready : goal.insert_before-requires-clause-ready
insert_before-requires-clause-ready c =
    let k = goal.at.insert_before-requires-clause-ready c in
    subst (λ (s : DocState). AreReady s.world) (sym (inserted-at c.args.doc.now c.args.owner c.args.number c.args.parent c.args.node
    (alone k.In_ok-remove) c.requires.parent_own c.requires.node_own c.args.child c.reference_child-reference.result
    c.reference_child-reference.ensures.value (removed k.In_ok-remove) refl)) c.requires.ready

pub returns : goal.returns
returns c =
    let k = goal.at.returns c in
    on_ok_weaker c.insert_before.result
    (inserted-at c.args.doc.now c.args.owner c.args.number c.args.parent c.args.node (alone k.In_ok-remove) c.requires.parent_own
    c.requires.node_own c.args.child c.reference_child-reference.result c.reference_child-reference.ensures.value (removed k.In_ok-remove))
    c.insert_before.ensures
