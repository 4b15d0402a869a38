use Rattle.dom_base.proofs.Std.{inl, sym, ◌∙◌, none-some}
use Rattle.dom_tree.proofs.Noted.{code-set_other}
use Rattle.dom_tree.proofs.ids.IdTable.note_value.Goals as goal

pub returns-else-is_id-clause-noted : goal.returns-else-is_id-clause-noted
returns-else-is_id-clause-noted c = record {
  noted = λ h has. inl (sym (code-set_other c.args.name.now c.args.value.now.items c.args.node.now (sym c.is_id.ensures ∙ c.if-is_id.false)) ∙ has);
  gone = λ h told. absurd (none-some h told);
}
