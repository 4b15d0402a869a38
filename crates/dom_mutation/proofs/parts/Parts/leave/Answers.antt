use Rattle.dom_mutation.proofs.Cited.{◌≡◌, true, true≢false, Result, Ok, Err, option_map, refl, sym, ap, subst, ◌∙◌, is_some, OnOk, parent_of, take_out}
use Rattle.dom_mutation.proofs.Cited.{Owner, name_at, cursors_of, with_cursors, KeyedTables, AreLeft, tables_with_trees, name_in, owner_in, trees_in, stepped}
use Rattle.dom_observers.specs.Definitions.{tables_of as observers_of}
use Rattle.dom_mutation.proofs.Observing.{none_held}
use Rattle.dom_mutation.proofs.RangedLists.{own_at_nodes}
use Rattle.dom_mutation.proofs.Shown.{known, read_there}
use Rattle.dom_mutation.proofs.Signalling.{IsAfter, removal_step}
use Rattle.dom_mutation.proofs.parts.Parts.leave.Goals as goal

-- what a call ensures that did not fail
on_ok : {T E P : Type 0} (r : Result T E) → ((e : E) → r ≡ Err e → ⊥) → OnOk r P → P
on_ok (Ok x) other h = h
on_ok (Err e) other h = absurd (other e refl)

pub unreachable-requires : goal.unreachable-requires
unreachable-requires c =
    let f = c.self.inside.trees.forest in
    true≢false (sym (known f c.self.invariant c.self.view_is (λ e. is_some (parent_of (trees_in e c.args.node) (name_in e c.args.node)) ≡ true)
    c.requires.has_parent)
    ∙ ap is_some (sym (read_there f c.self.invariant c.self.view_is parent_of c.args.node (λ r. r.parent)))
    ∙ ap is_some (sym c.parent.ensures.value) ∙ ap (λ m. is_some (option_map (name_at f.names) m)) c.in_default.is)

pub invariant_of-self : goal.invariant_of-self
invariant_of-self c =
    let f = c.self.inside.trees.forest in
    none_held f c.self.invariant c.self.view_is (name_at f.names c.args.node).owner (observers_of c.give_up_observers.new.observers) c.give_up_observers.ensures

pub leave-requires-clause-iterators : goal.leave-requires-clause-iterators
leave-requires-clause-iterators c k i e =
    ((c.self.invariant.own c.lent_name.result.0.now).iterators k i e).stands

pub on_remove-requires-clause-ends : goal.on_remove-requires-clause-ends
on_remove-requires-clause-ends c = own_at_nodes c.self.inside.trees.forest.names c.self.inside.ranges c.self.invariant.ranges.own

-- what is held after the step, and the state
after : (c : goal.After-settle) → IsAfter c.settle.new.trees.forest (tables_with_trees (cursors_of c.settle.new.cursors)
    (observers_of c.settle.new.observers) c.settle.new.trees c.settle.new.ranges) c.settle.result (stepped (owner_in c.args.self.now c.args.node)
    (take_out (name_in c.args.self.now c.args.node)) c.args.self.now)
after c =
    let f = c.self.inside.trees.forest in
    let each = cursors_of c.self.inside.cursors in
    let o = (name_at f.names c.args.node).owner in
    let is : o ≡ c.lent_name.result.0.now = sym c.lent_name.ensures.owner in
    let u : KeyedTables = record (each o) { iterators = (cursors_of c.leave.new.self o).iterators } in
    removal_step f c.self.invariant c.self.view_is c.args.node c.requires.node_is_node c.law_iterators_stay.ensures c.law_nodes_stand_once.ensures.once
    c.law_nodes_stand_once.ensures.only c.law_nodes_stand_once.ensures.distinct
    c.in-Some.parent (c.parent.ensures.node c.in-Some.parent c.in-Some.is) c.in-Some.ensures.value
    u
    (subst (λ (q : Owner). AreLeft f c.args.node (each q).iterators (cursors_of c.leave.new.self q).iterators) (sym is) c.leave.ensures.iterators) refl
    (cursors_of c.leave.new.self)
    (subst (λ (q : Owner). cursors_of c.leave.new.self ≡ with_cursors each q (record (each q) { iterators = (cursors_of c.leave.new.self q).iterators }))
    (sym is) c.leave.ensures.others)
    (observers_of c.transient.new.self) (on_ok c.transient.result c.in_default-transient.not-Err c.transient.ensures) c.on_remove.new.self
    (c.on_remove.ensures.child c.in-Some.parent (c.parent.ensures.node c.in-Some.parent c.in-Some.is) (sym c.in-Some.ensures.value))
    c.unlink-done.new.self c.unlink-done.ensures c.settle.ensures

pub invariant_of-self-2 : goal.invariant_of-self-2
invariant_of-self-2 c = (after c).held

pub returns : goal.returns
returns c = (after c).state
