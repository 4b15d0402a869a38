use Rattle.dom_query_commands.proofs.Cited.{[], refl, Command, faults, keeps, may_act, passes, refused, lone_passes, lone_refuses, namings}
use Rattle.dom_query_commands.proofs.observing.new_observer.Goals as goal

pub returns-in_err-admit-clause-handled : goal.returns-in_err-admit-clause-handled
returns-in_err-admit-clause-handled g c =
    refused g.A.Answers.adds _ c.args.owner Command.observer ([]) _ _ (search namings) c.admit.ensures c.in_err-admit.was c.from_residual.ensures.1

pub returns-in_err-number-clause-handled : goal.returns-in_err-number-clause-handled
returns-in_err-number-clause-handled g c =
    let e = c.in_err-number.ensures in
    faults g.A.Answers.adds _ c.state.inside.doc _ c.state.view_is (may_act _ _ _ ([]) (search namings) c.admit.ensures c.in_ok-admit.was) _ _ _
    c.from_residual-in_err-number.ensures.1 (lone_refuses refl e.limit e.other) (λ r h. e.err)

pub returns-clause-handled : goal.returns-clause-handled
returns-clause-handled g c =
    let e = c.in_ok-number.ensures in
    keeps g.A.Answers.adds _ c.state.inside.doc _ c.state.view_is (may_act _ _ _ ([]) (search namings) c.admit.ensures c.in_ok-admit.was) _ _ _ _
    (lone_passes _ refl e.limit) refl e.world refl c.accept.ensures.done

pub observer_make-requires : goal.observer_make-requires
observer_make-requires g c = rw (← c.state.view_is) at (passes c.args.state.now.world c.args.owner [] c.admit.ensures c.in_ok-admit.was).owner
