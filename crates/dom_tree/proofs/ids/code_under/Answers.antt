use Rattle.dom_base.proofs.Std.{ap, sym, ◌∙◌, cond, None}
use Rattle.dom_tree.specs.Ids.{code_in}
use Rattle.dom_tree.proofs.Noted.{noted-removed}
use Rattle.dom_tree.proofs.ids.code_under.Goals as goal

pub returns-then-is_id : goal.returns-then-is_id
returns-then-is_id c f k =
    noted-removed c.args.name.now c.args.node.now c.law_attributes_have_own_names.ensures f k _
    (c.id_number.ensures ∙ sym (ap (λ t. cond t (code_in c.args.node.now) None) (sym c.is_id.ensures ∙ c.if-is_id.true)))

pub returns-else-is_id : goal.returns-else-is_id
returns-else-is_id c f k =
    noted-removed c.args.name.now c.args.node.now c.law_attributes_have_own_names.ensures f k _
    (sym (ap (λ t. cond t (code_in c.args.node.now) None) (sym c.is_id.ensures ∙ c.if-is_id.false)))
