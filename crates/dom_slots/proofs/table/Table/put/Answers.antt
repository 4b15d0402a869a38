use Rattle.dom_base.proofs.Std.{sym, ap, ◌∙◌, nat_eq, if◌then◌else◌}
use Rattle.dom_model.proofs.Model.{is_in}
use Rattle.node_arena.specs.Nodes.{insert_before}
use Rattle.dom_slots.specs.Definitions.{list_at, slots_in, SlotTable, list_of}
use Rattle.dom_slots.proofs.Mapping.{agree-put}
use Rattle.dom_slots.proofs.Tables.{changed-found, when-ok}
use Rattle.dom_slots.proofs.table.Table.put.Goals as goal

pub invariant_of-self : goal.invariant_of-self
invariant_of-self c = λ k s. c.self.invariant k s ∙ ap (is_in nat_eq k) (sym (c.in_err-put.ensures.err s))

pub invariant_of-self-else-is_err : goal.invariant_of-self-else-is_err
invariant_of-self-else-is_err c =
    agree-put c.args.slot c.args.node (list_at c.self.inside.lists.rows.items) (list_at c.put.new.self.rows.items)
    (slots_in c.self.inside.slots) (slots_in c.put-2.new.self) c.self.invariant c.args.before c.in_ok-put.ensures.ok
    (when-ok c.put-2.result _ (sym c.is_err.ensures.value ∙ c.if-is_err.false) c.put-2.ensures)

pub returns : goal.returns
returns c = λ k.
    changed-found (λ xs. insert_before xs c.args.node c.args.before) c.args.slot c.self.inside.lists.rows.items c.put.new.self.rows.items
    c.in_ok-put.ensures.ok k
    ∙ ap (λ (t : SlotTable). if nat_eq c.args.slot k then insert_before (list_of t k) c.args.node c.args.before else list_of t k) c.self.view_is
