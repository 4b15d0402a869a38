use Rattle.dom_commands.proofs.Cited.{◌∷◌, ◌∙◌, [], Err, ap, refl, Any, Range, made, inserting_node, inserting_refusal, key_of, faults, may_act, plans, refused}
use Rattle.dom_commands.proofs.Cited.{none_stopped, refuses, namings}
use Rattle.dom_model.proofs.Model.{part_of}
use Rattle.dom_commands.proofs.ranging.insert_node.Goals as goal

pub returns-in_err-admit-clause-handled : goal.returns-in_err-admit-clause-handled
returns-in_err-admit-clause-handled g c =
    refused g.A.Answers.adds _ _ _ (Any c.args.node ∷ Range c.args.number ∷ []) _ _ (search namings) c.admit.ensures c.in_err-admit.was
    c.from_residual.ensures.1

pub insert_node-requires-clause-own : goal.insert_node-requires-clause-own
insert_node-requires-clause-own g c = (key_of _ c.state.inside.doc _ c.state.view_is _ _ _ c.key-node.ensures.name).mine

pub returns-in_err-insert_node-clause-handled : goal.returns-in_err-insert_node-clause-handled
returns-in_err-insert_node-clause-handled g c =
    let d = c.state.inside.doc in
    let node = key_of _ c.state.inside.doc _ c.state.view_is _ _ _ c.key-node.ensures.name in
    let e = c.in_err-insert_node.ensures in
    faults g.A.Answers.adds _ c.state.inside.doc _ c.state.view_is
    (may_act _ _ _ (Any c.args.node ∷ Range c.args.number ∷ []) (search namings) c.admit.ensures c.in_ok-admit.was) _ _ _
    c.from_residual-in_err-insert_node.ensures.1 (refuses (λ j. inserting_refusal (part_of d.world c.args.owner) c.args.number (node.name j)) e.refused)
    (λ r h. e.unchanged r (ap Err h))

pub returns-clause-handled : goal.returns-clause-handled
returns-clause-handled g c =
    let d = c.state.inside.doc in
    let node = key_of _ c.state.inside.doc _ c.state.view_is _ _ _ c.key-node.ensures.name in
    let e = c.in_ok-insert_node.ensures in
    plans g.A.Answers.adds _ c.state.inside.doc _ c.state.view_is
    (may_act _ _ _ (Any c.args.node ∷ Range c.args.number ∷ []) (search namings) c.admit.ensures c.in_ok-admit.was) _ _ _ _
    (none_stopped (λ j. inserting_refusal (part_of d.world c.args.owner) c.args.number (node.name j)) tt e.stopped) refl refl
    (e.world ∙ (λ j. made c.args.owner (inserting_node c.args.number (node.name j)) d.world)) c.accept.ensures.done
