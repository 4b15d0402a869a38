use Rattle.dom_query_commands.proofs.Cited.{◌∷◌, [], refl, with_turn, keeps, may_act, refused, thing_there, command_of, thing_of}
use Rattle.dom_query_commands.proofs.Requesting.{asked}
use Rattle.dom_query_commands.proofs.things.perform.Goals as goal

pub returns-in_err-admit-clause-handled : goal.returns-in_err-admit-clause-handled
returns-in_err-admit-clause-handled g c =
    refused g.A.Answers.adds _ c.args.owner (command_of c.args.request c.args.number) (thing_of c.args.request c.args.number ∷ []) _ _
    (asked c.args.owner c.args.request c.args.number).naming (rw c.thing_of.ensures at c.admit.ensures) c.in_err-admit.was c.from_residual.ensures.1

pub grant-value-requires : goal.grant-value-requires
grant-value-requires g c =
    thing_there _ c.state.inside.doc _ c.state.view_is c.args.owner (thing_of c.args.request c.args.number) (rw c.thing_of.ensures at c.admit.ensures)
    c.in_ok-admit.was

pub returns-clause-handled : goal.returns-clause-handled
returns-clause-handled g c =
    let is = asked c.args.owner c.args.request c.args.number in
    keeps g.A.Answers.adds _ c.state.inside.doc _ c.state.view_is
    (may_act _ _ _ (thing_of c.args.request c.args.number ∷ []) is.naming (rw c.thing_of.ensures at c.admit.ensures) c.in_ok-admit.was) _ _ _ _
    (is.none _) (is.runs (with_turn c.state.inside.turn c.state.inside.doc.world)) c.grant-value.ensures.world refl c.accept.ensures.done
