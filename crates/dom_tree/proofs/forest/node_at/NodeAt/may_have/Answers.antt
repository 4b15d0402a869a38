use Rattle.dom_base.proofs.Std.{subst}
use Rattle.dom_model.proofs.Model.{Node}
use Rattle.dom_attributes.specs.Signs.{MustHave}
use Rattle.dom_tree.proofs.Steps.{node_here}
use Rattle.dom_tree.proofs.forest.node_at.NodeAt.may_have.Goals as goal

pub returns : goal.returns
returns c lacking = rw (← c.self.view_is) (λ must. c.may_have.ensures lacking
    (subst (λ (n : Node). MustHave n.element n.attributes c.args.signs.bits) (node_here c.self.invariant c.payload.ensures) must))
