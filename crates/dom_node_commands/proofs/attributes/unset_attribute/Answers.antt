use Rattle.dom_node_commands.proofs.Handlers.{◌∷◌, Element, [], makes, may_act, namings, refl, refused, string_bytes, unsetting_attribute}
use Rattle.dom_node_commands.proofs.attributes.unset_attribute.Goals as goal

pub returns-in_err-element-clause-handled : goal.returns-in_err-element-clause-handled
returns-in_err-element-clause-handled g c =
    refused g.A.Answers.adds _ _ _ (Element c.args.element ∷ []) _ _ (search namings) c.in_err-element.ensures.passed refl c.from_residual.ensures.1

pub returns-clause-handled : goal.returns-clause-handled
returns-clause-handled g c =
    makes g.A.Answers.adds (λ x. unsetting_attribute x (string_bytes c.args.name)) _ c.state.inside.doc _ c.state.view_is
    (may_act _ _ _ (Element c.args.element ∷ []) (search namings) c.in_ok-element.ensures.passed refl) _ _ _ _ _ _ c.in_ok-element.ensures.key.name
    refl refl refl (rw c.deref.ensures at c.in_ok-remove_attr.ensures.world) c.accept.ensures.done
