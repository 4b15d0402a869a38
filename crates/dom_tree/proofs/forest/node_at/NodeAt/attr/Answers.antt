use Rattle.dom_base.proofs.Std.{ap, sym, ◌∙◌}
use Rattle.dom_model.proofs.Model.{attribute_value}
use Rattle.dom_tree.proofs.Steps.{node_here}
use Rattle.dom_tree.proofs.forest.node_at.NodeAt.attr.Goals as goal

pub returns : goal.returns
returns c =
    rw (← c.self.view_is) (c.attribute.ensures ∙ ap (λ n. attribute_value n c.args.name.now) (sym (node_here c.self.invariant c.payload.ensures)))
