use Rattle.dom_base.proofs.Std.{ap, sym, ◌∙◌, slice_get}
use Rattle.dom_model.proofs.Model.{Node}
use Rattle.dom_tree.proofs.Kept.{shows_node}
use Rattle.dom_tree.proofs.forest.Forest.attr_at.Goals as goal

pub returns : goal.returns
returns c =
    c.attribute_at.ensures
    ∙ ap (λ (n : Node). slice_get n.attributes c.args.index)
    (sym (shows_node c.self.view_is c.self.invariant.kept c.args.key _ c.requires c.payload.ensures.value))
