use Rattle.dom_base.proofs.Std.{List, sym, subst}
use Rattle.std.specs.Rc.{rc_str_bytes}
use Rattle.dom_model.proofs.Model.{Attribute}
use Rattle.dom_attributes.specs.Signs.{Cover}
use Rattle.dom_attributes.proofs.SignLaws.{cover-without}
use Rattle.dom_tree.specs.Own.{attributes_in}
use Rattle.dom_tree.proofs.stored.StoredNode.remove_attribute.Goals as goal

pub invariant_of-self : goal.invariant_of-self
invariant_of-self c =
    subst (λ (bs : List Attribute). Cover c.self.inside.signs (rc_str_bytes c.self.inside.shared.value.element) bs)
    (sym c.remove_attribute.ensures.without)
    (cover-without c.args.name.now (attributes_in c.self.inside.own) c.remove_attribute.ensures.own_names c.self.invariant)
