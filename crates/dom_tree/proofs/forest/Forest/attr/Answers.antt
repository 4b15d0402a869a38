use Rattle.dom_base.proofs.Std.{ap, sym, ◌∙◌}
use Rattle.dom_model.proofs.Model.{attribute_value}
use Rattle.dom_tree.proofs.Kept.{shows_node}
use Rattle.dom_tree.proofs.forest.Forest.attr.Goals as goal

pub returns : goal.returns
returns c =
    c.attribute.ensures
    ∙ ap (λ n. attribute_value n c.args.name.now) (sym (shows_node c.self.view_is c.self.invariant.kept c.args.key _ c.requires c.payload.ensures.value))
