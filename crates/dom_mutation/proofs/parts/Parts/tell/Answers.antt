use Rattle.dom_mutation.proofs.Cited.{false, refl, sym, ap, ◌∙◌, target_of, name_at, tables_of, change_of, NamesNodes}
use Rattle.dom_mutation.proofs.Shown.{known}
use Rattle.dom_mutation.proofs.Observing.{none_held}
use Rattle.dom_mutation.proofs.Records.{record_held, record_state, notify_held, notify_state}
use Rattle.dom_mutation.proofs.parts.Parts.tell.Goals as goal

pub invariant_of-self : goal.invariant_of-self
invariant_of-self c =
    let f = c.self.inside.trees.forest in
    let speaks = known f c.self.invariant c.self.view_is (λ e. NamesNodes e c.args.change) c.requires in
    notify_held f c.self.invariant c.law_nodes_stand_once.ensures.once c.law_nodes_stand_once.ensures.only c.law_nodes_stand_once.ensures.distinct
    (change_of c.args.change) speaks
    (tables_of c.queue_record.new.self) c.in-Ok-true.ensures.tables c.self.view_is c.push_notify.new.self c.lent_name.result.0.now
    (c.lent_name.ensures.owner ∙ ap (λ k. (name_at f.names k).owner) c.target.ensures)
    c.push_notify.result c.push_notify.ensures.ok c.push_notify.ensures.err

pub invariant_of-self-in-Ok-false : goal.invariant_of-self-in-Ok-false
invariant_of-self-in-Ok-false c =
    let f = c.self.inside.trees.forest in
    let speaks = known f c.self.invariant c.self.view_is (λ e. NamesNodes e c.args.change) c.requires in
    record_held f c.self.invariant c.law_nodes_stand_once.ensures.once c.law_nodes_stand_once.ensures.only c.law_nodes_stand_once.ensures.distinct
    (change_of c.args.change) speaks
    (tables_of c.queue_record.new.self) c.in-Ok-false.ensures.tables c.self.inside.trees.queue false refl

pub invariant_of-self-in-Err : goal.invariant_of-self-in-Err
invariant_of-self-in-Err c =
    none_held c.self.inside.trees.forest c.self.invariant c.self.view_is c.lent_name.result.0.now (tables_of c.give_up_observers.new.observers)
    c.give_up_observers.ensures

pub returns-in-Ok-true : goal.returns-in-Ok-true
returns-in-Ok-true c =
    let f = c.self.inside.trees.forest in
    let speaks = known f c.self.invariant c.self.view_is (λ e. NamesNodes e c.args.change) c.requires in
    notify_state f c.self.invariant c.law_nodes_stand_once.ensures.once c.law_nodes_stand_once.ensures.only c.law_nodes_stand_once.ensures.distinct
    (change_of c.args.change) speaks
    (tables_of c.queue_record.new.self) c.in-Ok-true.ensures.tables c.self.view_is c.push_notify.new.self c.lent_name.result.0.now
    (c.lent_name.ensures.owner ∙ ap (λ k. (name_at f.names k).owner) c.target.ensures)
    c.push_notify.result c.push_notify.ensures.ok (sym c.in-Ok-true.field-0-test ∙ c.in-Ok-true.ensures.taken)

pub returns-in-Ok-false : goal.returns-in-Ok-false
returns-in-Ok-false c =
    let f = c.self.inside.trees.forest in
    let speaks = known f c.self.invariant c.self.view_is (λ e. NamesNodes e c.args.change) c.requires in
    record_state f c.self.invariant c.law_nodes_stand_once.ensures.once c.law_nodes_stand_once.ensures.only c.law_nodes_stand_once.ensures.distinct
    (change_of c.args.change) speaks
    (tables_of c.queue_record.new.self) c.in-Ok-false.ensures.tables c.self.view_is c.self.inside.trees.queue
    (name_at f.names (target_of (change_of c.args.change))).owner refl
    false (sym c.in-Ok-false.field-0-test ∙ c.in-Ok-false.ensures.taken) refl
