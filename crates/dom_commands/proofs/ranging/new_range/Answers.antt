use Rattle.dom_commands.proofs.Cited.{◌∙◌, [], ap, refl, key_of, faults, may_act, refused, lone_passes, lone_refuses, namings}
use Rattle.dom_model.proofs.Model.{Owner, owner-part_of, Command, own, node_of}
use Rattle.dom_admission.proofs.Handling.{keeps}
use Rattle.dom_commands.proofs.ranging.new_range.Goals as goal

pub returns-in_err-admit-clause-handled : goal.returns-in_err-admit-clause-handled
returns-in_err-admit-clause-handled g c =
    refused g.A.Answers.adds _ c.args.owner Command.range_new ([]) _ _ (search namings) c.admit.ensures c.in_err-admit.was c.from_residual.ensures.1

pub returns-in_err-number-clause-handled : goal.returns-in_err-number-clause-handled
returns-in_err-number-clause-handled g c =
    let e = c.in_err-number.ensures in
    faults g.A.Answers.adds _ c.state.inside.doc _ c.state.view_is (may_act _ _ _ ([]) (search namings) c.admit.ensures c.in_ok-admit.was) _ _ _
    c.from_residual-in_err-number.ensures.1 (lone_refuses refl e.limit e.other) (λ r h. e.err)

pub returns-clause-handled : goal.returns-clause-handled
returns-clause-handled g c =
    let e = c.in_ok-number.ensures in
    keeps g.A.Answers.adds _ c.state.inside.doc _ c.state.view_is (may_act _ _ _ ([]) (search namings) c.admit.ensures c.in_ok-admit.was) _ _ _ _
    (lone_passes _ refl e.limit) refl e.world refl c.accept.ensures.done

pub range_make-requires-clause-is_first : goal.range_make-requires-clause-is_first
range_make-requires-clause-is_first g c =
    let first = key_of _ c.state.inside.doc _ c.state.view_is c.args.owner (own 0) _ c.key-first.ensures.name in
    first.name ∙ ap (λ (o : Owner). node_of o 0) (owner-part_of c.state.inside.doc.world c.args.owner)
