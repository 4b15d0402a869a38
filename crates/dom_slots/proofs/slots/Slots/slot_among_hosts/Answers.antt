use Rattle.dom_base.proofs.Std.{◌≡◌, ◌<◌, true, length, ap, subst, nat_eq, same_Some}
use Rattle.dom_model.proofs.Model.{is_in}
use Rattle.dom_slots.specs.Definitions.{SlotsNow, SlotTable, list_of}
use Rattle.dom_slots.proofs.Assigned.{listed-node, listed-slot}
use Rattle.dom_slots.proofs.slots.Slots.slot_among_hosts.Goals.{In-Some}
use Rattle.dom_slots.proofs.slots.Slots.slot_among_hosts.Goals as goal

-- the node stands in the list of the slot that the table has for it
listed : (c : In-Some) → is_in nat_eq c.args.node (list_of c.args.self.now.table c.in-Some.slot) ≡ true
listed c = subst (λ (t : SlotTable). is_in nat_eq c.args.node (list_of t c.in-Some.slot) ≡ true) (ap (λ (s : SlotsNow). s.table) c.self.view_is)
    (c.slot.ensures.some c.in-Some.slot c.in-Some.is)

pub returns-in-Some-clause-value : goal.returns-in-Some-clause-value
returns-in-Some-clause-value c = listed-slot c.args.forest.now c.args.self.now.hosts c.args.self.now.table c.requires.slots.table c.args.node
    c.in-Some.slot (listed c)

pub returns-in-Some-clause-node : goal.returns-in-Some-clause-node
returns-in-Some-clause-node c =
    λ k e.
    subst (λ j. j < length c.args.forest.now.names) (same_Some c.in-Some.slot k e)
    (listed-node c.args.forest.now c.args.self.now.hosts c.args.self.now.table c.requires.slots.table c.args.node c.in-Some.slot (listed c))
