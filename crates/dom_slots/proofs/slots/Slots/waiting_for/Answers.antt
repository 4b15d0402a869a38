use Rattle.dom_base.proofs.Std.{◌≡◌, ◌<◌, All, option_map, length, map, filter, ap, sym, subst, ◌∙◌, eqb-true, IfOk-weaker}
use Rattle.dom_model.proofs.Model.{text_eq, slot_name, node_in, children_of}
use Rattle.dom_tree.specs.Definitions.{name_at}
use Rattle.dom_slots.specs.Definitions.{is_wanted, looks_for, ParkedNow, SlotsNow, waiting_under}
use Rattle.dom_slots.proofs.Parked.{parked-serves, parked-nodes}
use Rattle.dom_slots.proofs.slots.Slots.waiting_for.Goals as goal

pub slot_name-own-requires : goal.slot_name-own-requires
slot_name-own-requires c =
    subst (λ k. k < length c.args.forest.now.names) (sym (ap (λ (q : ParkedNow). q.slot) c.parked.view_is))
    (c.requires.parked c.in-Some-parked.parked (sym (ap (λ (t : SlotsNow). t.parked) c.self.view_is) ∙ c.in-Some-parked.is)).slot

pub returns-then-is_same_string-clause-names : goal.returns-then-is_same_string-clause-names
returns-then-is_same_string-clause-names c =
    let f = c.args.forest.now in
    let p = c.in-Some-parked.parked in
    let view = c.parked.view_is in
    let right = c.requires.parked p (sym (ap (λ (t : SlotsNow). t.parked) c.self.view_is) ∙ c.in-Some-parked.is) in
    let own = c.slot_name-own.result.now in
    let host = sym (ap (λ (q : ParkedNow). q.host) view) ∙ eqb-true c.parked.inside.host c.args.host (sym c.eq.ensures ∙ c.if-eq.true) in
    IfOk-weaker c.of.result _ _
    (λ w under name wanted.
    subst (λ k. map (name_at f.names) (waiting_under w name) ≡ filter (λ y. looks_for name (node_in f.trees y)) (children_of f.trees (name_at f.names k))) host
    (parked-serves f c.args.self.now.hosts p right own c.in-Some.name.now name c.deref.result.now (waiting_under w name)
    (c.slot_name-own.ensures ∙ ap (λ (q : ParkedNow). slot_name (node_in f.trees (name_at f.names q.slot))) view)
    (sym c.is_same_string.ensures ∙ c.if-is_same_string.true)
    (ap (λ o. is_wanted (option_map (λ a. a.now) o) name) (sym c.in-Some.is) ∙ wanted) (under name)
    (c.deref.ensures.value ∙ ap (λ (q : ParkedNow). q.list) view)))
    c.of.ensures

pub returns-then-is_same_string-clause-nodes : goal.returns-then-is_same_string-clause-nodes
returns-then-is_same_string-clause-nodes c =
    let f = c.args.forest.now in
    let p = c.in-Some-parked.parked in
    let right = c.requires.parked p (sym (ap (λ (t : SlotsNow). t.parked) c.self.view_is) ∙ c.in-Some-parked.is) in
    IfOk-weaker c.of.result _ _
    (λ w under name.
    parked-nodes (text_eq c.slot_name-own.result.now name) c.deref.result.now (waiting_under w name) (under name)
    (subst (All (λ k. k < length f.names)) (sym (c.deref.ensures.value ∙ ap (λ (q : ParkedNow). q.list) c.parked.view_is)) right.nodes))
    c.of.ensures
