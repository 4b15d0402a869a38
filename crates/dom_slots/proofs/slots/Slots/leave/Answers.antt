use Rattle.dom_base.proofs.Std.{◌≡◌, ap, sym, subst, ◌∙◌, nat_eq, if◌then◌else◌, on_ok_weaker}
use Rattle.dom_model.proofs.Model.{append_once}
use Rattle.dom_slots.specs.Definitions.{SlotsNow, SlotTable, list_of, IsSingle}
use Rattle.dom_slots.proofs.Leaving.{renews-left}
use Rattle.dom_slots.proofs.slots.Slots.leave.Goals as goal

pub take_out-requires : goal.take_out-requires
take_out-requires c = subst (λ (t : SlotTable). IsSingle (list_of t c.in-Some.key)) (sym (ap (λ (s : SlotsNow). s.table) c.self.view_is))
    (c.requires.single c.in-Some.key c.in-Some.is)

pub returns-then-not-take_out-clause-renewed : goal.returns-then-not-take_out-clause-renewed
returns-then-not-take_out-clause-renewed c =
    λ right.
    let keys = c.args.signals.now.items in
    renews-left c.args.forest.now c.law_nodes_stand_once.ensures.distinct c.args.self.now.hosts c.in-Some.is (c.requires.slot c.in-Some.key c.in-Some.is)
    c.args.node (ap (λ (t : SlotsNow). t.table) c.self.view_is) c.take_out.ensures.stood c.take_out.ensures.lists right
    (ap (λ b. if b then append_once nat_eq keys c.in-Some.key else keys) (sym c.if-not-take_out.true))

pub returns-clause-renewed : goal.returns-clause-renewed
returns-clause-renewed c =
    λ right.
    let k = c.in-Some.key in
    let keys = c.args.signals.now.items in
    on_ok_weaker c.add_once.result
    (λ (are : c.add_once.new.signals.items ≡ append_once nat_eq keys k).
    renews-left c.args.forest.now c.law_nodes_stand_once.ensures.distinct c.args.self.now.hosts c.in-Some.is (c.requires.slot k c.in-Some.is)
    c.args.node (ap (λ (t : SlotsNow). t.table) c.self.view_is) c.take_out.ensures.stood c.take_out.ensures.lists right
    (are ∙ ap (λ b. if b then append_once nat_eq keys k else keys) (sym c.if-not-take_out.false))) c.add_once.ensures
