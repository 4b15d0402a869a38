use Rattle.dom_base.proofs.Std.{sym, subst}
use Rattle.dom_model.proofs.Model.{Node}
use Rattle.dom_attributes.specs.Attributes.{HaveOwnNames}
use Rattle.dom_tree.proofs.Kept.{shows_node}
use Rattle.dom_tree.proofs.forest.Forest.law_attributes_have_own_names.Goals as goal

pub returns : goal.returns
returns c =
    subst (λ (n : Node). HaveOwnNames n.attributes) (sym (shows_node c.self.view_is c.self.invariant.kept c.args.key _ c.requires c.payload.ensures.value))
    c.law_attributes_have_own_names.ensures
