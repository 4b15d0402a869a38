use Rattle.dom_base.proofs.Std.{sym, subst, rc_str_bytes}
use Rattle.dom_attributes.specs.Signs.{Cover}
use Rattle.dom_tree.proofs.stored.StoredNode.of.Goals as goal

pub invariant_of-result : goal.invariant_of-result
invariant_of-result c = subst (Cover c.with_attributes-signs.result (rc_str_bytes c.shared-2.inside.shared.value.element))
    (sym c.in_ok-of.ensures.attributes)
    (c.with_attributes-signs.ensures (rc_str_bytes c.shared-2.inside.shared.value.element) c.shared-2.invariant)
