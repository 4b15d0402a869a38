use Rattle.dom_base.proofs.Std.{List, sym, ap, subst, ◌∙◌}
use Rattle.std.specs.Rc.{rc_str_bytes}
use Rattle.dom_model.proofs.Model.{Attribute, attributes_with}
use Rattle.dom_attributes.specs.Signs.{Cover}
use Rattle.dom_tree.specs.Own.{attributes_in}
use Rattle.dom_tree.proofs.stored.StoredNode.set_attribute.Goals as goal

pub invariant_of-self-2 : goal.invariant_of-self-2
invariant_of-self-2 c =
    let element = rc_str_bytes c.self.inside.shared.value.element in
    let old = attributes_in c.self.inside.own in
    subst (λ (bs : List Attribute). Cover c.add.new.self element bs)
    (ap (λ v. attributes_with c.args.name.now v old) c.as_slice.ensures.value ∙ sym c.in_ok-set_attribute.ensures.ok)
    (c.add.ensures element old c.self.invariant)
