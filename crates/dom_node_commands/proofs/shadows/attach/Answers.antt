use Rattle.dom_node_commands.proofs.Handlers.{◌++◌, ◌∙◌, ◌∷◌, Element, Err, NodeName, [], ap, attaches, attaching, attaching_refusal, component_made, faults}
use Rattle.dom_node_commands.proofs.Handlers.{key_of, kind_in, length, may_act, name-last, namings, none_refused, part_of, refl, refused, refuses}
use Rattle.dom_node_commands.proofs.Handlers.{shadow_root_of}
use Rattle.dom_node_commands.proofs.shadows.attach.Goals as goal

pub returns-in_err-host-clause-handled : goal.returns-in_err-host-clause-handled
returns-in_err-host-clause-handled g c =
    refused g.A.Answers.adds _ _ _ (Element c.args.host ∷ []) _ _ (search namings) c.in_err-host.ensures.passed refl c.from_residual.ensures.1

pub returns-in_err-root-clause-handled : goal.returns-in_err-root-clause-handled
returns-in_err-root-clause-handled g c =
    let d = c.state.inside.doc in
    let host = key_of _ d _ c.state.view_is _ _ _ c.in_ok-host.ensures.key.name in
    let e = c.in_err-root.ensures in
    faults g.A.Answers.adds _ d _ c.state.view_is (may_act _ _ _ (Element c.args.host ∷ []) (search namings) c.in_ok-host.ensures.passed refl) _ _ _
    c.from_residual-in_err-root.ensures.1 (refuses (λ j. attaching_refusal (part_of d.world (host.mine j)) (host.name j)) (λ r. (e.refused r).0))
    (λ r h. e.unchanged r (ap Err h))

pub returns-clause-handled : goal.returns-clause-handled
returns-clause-handled g c =
    let d = c.state.inside.doc in
    let host = key_of _ d _ c.state.view_is _ _ _ c.in_ok-host.ensures.key.name in
    let e = c.in_ok-root.ensures in
    let component = component_made c.args.owner.now (length (part_of d.world c.args.owner.now).attached) in
    let names = c.forest.ensures.names ∙ e.names
    ∙ (λ j. d.names ++ shadow_root_of (component_made (host.mine j) (length (part_of d.world (host.mine j)).attached)) ∷ []) in
    let made_last = name-last d.names (shadow_root_of component) names e.key c.name-component.ensures.at in
    attaches g.A.Answers.adds _ d _ c.state.view_is (may_act _ _ _ (Element c.args.host ∷ []) (search namings) c.in_ok-host.ensures.passed refl) _ _ _ _
    (none_refused (λ j. attaching_refusal (part_of d.world (host.mine j)) (host.name j)) c.in_ok-root.root e.refused)
    (e.world ∙ (λ j. (attaching d.world (host.mine j) (host.name j)).0))
    (ap (λ (x : NodeName). x.owner) made_last) c.accept.ensures.done

pub attach-requires-clause-element : goal.attach-requires-clause-element
attach-requires-clause-element g c = kind_in _ c.state.inside.doc _ (Element c.args.host) _ c.state.view_is c.in_ok-host.ensures.key.kind
