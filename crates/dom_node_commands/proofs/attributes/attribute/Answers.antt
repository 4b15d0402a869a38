use Rattle.dom_node_commands.proofs.Handlers.{◌∙◌, ◌∷◌, Command, Element, Ok, [], answers, ap, attribute_value, may_act, namings, node_in, reads, refl}
use Rattle.dom_node_commands.proofs.Handlers.{refused, string_bytes, string_or_null, told_here, word_view}
use Rattle.dom_node_commands.proofs.attributes.attribute.Goals as goal

pub returns-in_err-element-clause-handled : goal.returns-in_err-element-clause-handled
returns-in_err-element-clause-handled g c =
    refused g.A.Answers.adds _ _ _ (Element c.args.element ∷ []) _ _ (search namings) c.in_err-element.ensures.passed refl c.from_residual.ensures.1

pub returns-clause-handled : goal.returns-clause-handled
returns-clause-handled g c =
    reads g.A.Answers.adds {c = Command.attribute (word_view c.args.element) (string_bytes c.args.name)}
    (may_act _ _ _ (Element c.args.element ∷ []) (search namings) c.in_ok-element.ensures.passed refl) _ _ _ (Ok tt) refl refl
    (ap (answers _) (rw c.deref.ensures at c.attribute_value.ensures
    ∙ told_here c.args.state.now _ _ _ c.in_ok-element.ensures.key.name
    (λ p x. string_or_null (attribute_value (node_in p.trees x) (string_bytes c.args.name)))))
    (refl, c.open_turn.ensures.world, c.in_ok-reply.ensures.ok)
