use Rattle.dom_base.proofs.Std.{sym, ap, subst, ◌∙◌, nat_eq, if◌then◌else◌}
use Rattle.dom_model.proofs.Model.{is_in}
use Rattle.node_arena.specs.Nodes.{without}
use Rattle.dom_slots.specs.Definitions.{IsSingle, list_at, slots_in, SlotTable, list_of}
use Rattle.dom_slots.proofs.Mapping.{agree-taken_out}
use Rattle.dom_slots.proofs.Tables.{list-found, changed-found}
use Rattle.dom_slots.proofs.table.Table.take_out.Goals as goal

pub take_out-requires-2 : goal.take_out-requires-2
take_out-requires-2 c = subst IsSingle
    (sym (list-found c.args.slot c.self.inside.lists.rows.items ∙ ap (λ (t : SlotTable). list_of t c.args.slot) c.self.view_is)) c.requires

pub invariant_of-self : goal.invariant_of-self
invariant_of-self c =
    agree-taken_out c.args.slot c.args.node (list_at c.self.inside.lists.rows.items) (list_at c.take_out-2.new.self.rows.items)
    (slots_in c.self.inside.slots) (slots_in c.take_out.new.self)
    c.self.invariant c.take_out-2.ensures.lists c.take_out.ensures

pub returns-clause-stood : goal.returns-clause-stood
returns-clause-stood c = c.take_out-2.ensures.stood ∙
    ap (is_in nat_eq c.args.node) (list-found c.args.slot c.self.inside.lists.rows.items ∙ ap (λ (t : SlotTable). list_of t c.args.slot) c.self.view_is)

pub returns-clause-lists : goal.returns-clause-lists
returns-clause-lists c = λ k.
    changed-found (without c.args.node) c.args.slot c.self.inside.lists.rows.items c.take_out-2.new.self.rows.items c.take_out-2.ensures.lists k
    ∙ ap (λ (t : SlotTable). if nat_eq c.args.slot k then without c.args.node (list_of t k) else list_of t k) c.self.view_is
