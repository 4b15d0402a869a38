use Rattle.dom_base.proofs.Std.{◌≡◌, ℕ, sym, ap, ◌∙◌, nat_eq}
use Rattle.dom_model.proofs.Model.{is_in}
use Rattle.dom_slots.specs.Definitions.{slots_in, SlotTable, list_of}
use Rattle.dom_slots.proofs.Mapping.{first-member, no-member}
use Rattle.dom_slots.proofs.Tables.{list-found}
use Rattle.dom_slots.proofs.table.Table.slot.Goals as goal

-- a node stands in the list of a slot just if it has that slot
listed : (c : goal.After-one) (s : ℕ) → is_in nat_eq c.args.node (list_of c.args.self.now s) ≡ is_in nat_eq s (slots_in c.self.inside.slots c.args.node)
listed c s =
    ap (λ (t : SlotTable). is_in nat_eq c.args.node (list_of t s)) (sym c.self.view_is)
    ∙ (ap (is_in nat_eq c.args.node) (sym (list-found s c.self.inside.lists.rows.items)) ∙ sym (c.self.invariant c.args.node s))

pub returns-clause-some : goal.returns-clause-some
returns-clause-some c = λ s e. listed c s ∙ first-member (slots_in c.self.inside.slots c.args.node) s (sym c.one.ensures ∙ e)

pub returns-clause-none : goal.returns-clause-none
returns-clause-none c = λ e s. listed c s ∙ no-member (slots_in c.self.inside.slots c.args.node) s (sym c.one.ensures ∙ e)
