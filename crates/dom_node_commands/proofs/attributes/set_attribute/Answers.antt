use Rattle.dom_node_commands.proofs.Handlers.{◌∙◌, ◌∷◌, Element, [], faults, held, is_name, key_of, kind_in, lone_passes, lone_refuses, made, may_act, namings}
use Rattle.dom_node_commands.proofs.Handlers.{not, plans, refl, refused, setting_attribute, unless}
use Rattle.dom_node_commands.proofs.attributes.set_attribute.Goals as goal

pub returns-in_err-element-clause-handled : goal.returns-in_err-element-clause-handled
returns-in_err-element-clause-handled g c =
    refused g.A.Answers.adds _ _ _ (Element c.args.element ∷ []) _ _ (search namings) c.in_err-element.ensures.passed refl c.from_residual.ensures.1

pub returns-in_err-set_attr-clause-handled : goal.returns-in_err-set_attr-clause-handled
returns-in_err-set_attr-clause-handled g c =
    let e = c.in_err-set_attr.ensures in
    faults g.A.Answers.adds _ c.state.inside.doc _ c.state.view_is
    (may_act _ _ _ (Element c.args.element ∷ []) (search namings) c.in_ok-element.ensures.passed refl) _ _ _
    c.from_residual-in_err-set_attr.ensures.1
    (lone_refuses (λ j. not (is_name (c.deref.ensures j))) (unless e.refused) e.other) (λ r h. e.unchanged (held e.refused e.other r h).0)

pub returns-clause-handled : goal.returns-clause-handled
returns-clause-handled g c =
    let d = c.state.inside.doc in
    let element = key_of _ d _ c.state.view_is _ _ _ c.in_ok-element.ensures.key.name in
    let e = c.in_ok-set_attr.ensures in
    plans g.A.Answers.adds _ d _ c.state.view_is (may_act _ _ _ (Element c.args.element ∷ []) (search namings) c.in_ok-element.ensures.passed refl) _ _ _ _
    (lone_passes _ (λ j. not (is_name (c.deref.ensures j))) (unless e.refused)) refl refl
    (e.world ∙ (λ j. made (element.mine j) (setting_attribute (element.name j) (c.deref.ensures j) c.args.value.items) d.world)) c.accept.ensures.done

pub set_attr-requires-clause-element : goal.set_attr-requires-clause-element
set_attr-requires-clause-element g c = kind_in _ c.state.inside.doc _ (Element c.args.element) _ c.state.view_is c.in_ok-element.ensures.key.kind
