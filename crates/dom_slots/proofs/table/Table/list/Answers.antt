use Rattle.dom_base.proofs.Std.{ap, ◌∙◌}
use Rattle.dom_slots.specs.Definitions.{SlotTable, list_of}
use Rattle.dom_slots.proofs.Tables.{list-found}
use Rattle.dom_slots.proofs.table.Table.list.Goals as goal

pub returns : goal.returns
returns c = c.of.ensures ∙ (list-found c.args.slot c.self.inside.lists.rows.items ∙ ap (λ (t : SlotTable). list_of t c.args.slot) c.self.view_is)
