use Rattle.dom_query_commands.proofs.Cited.{◌∷◌, ◌∙◌, ◌++◌, [], ap, refl, string_bytes, Command, Word, nothing, replied, says, opening_turn, micro_task}
use Rattle.dom_query_commands.proofs.Cited.{with_turn, DocState, with_tasks, finished, in_state, may_act, refused, namings}
use Rattle.dom_query_commands.proofs.ObserverLaws.{micro_queued}
use Rattle.dom_query_commands.proofs.microtasks.micro.Goals as goal

pub returns-in_err-admit-clause-handled : goal.returns-in_err-admit-clause-handled
returns-in_err-admit-clause-handled g c =
    refused g.A.Answers.adds _ c.args.owner (Command.micro (string_bytes c.args.label)) ([]) _ _
    (search namings) c.admit.ensures c.in_err-admit.was c.from_residual.ensures.1

pub returns-clause-handled : goal.returns-clause-handled
returns-clause-handled g c =
    let d = c.state.inside.doc in
    let t = c.state.inside.turn in
    let o = c.args.owner in
    let queued = c.in_ok-push_micro.ensures.ok ∙ ap (λ (v : Word). with_tasks (d.world.tasks ++ micro_task o v ∷ []) d)
    (ap (λ v. v.items) c.into_bytes.ensures.value) in
    in_state g.A.Answers.adds _ c.state.inside.doc _ c.state.view_is (may_act _ _ _ ([]) (search namings) c.admit.ensures c.in_ok-admit.was) _ _ _ _
    (finished g.A.Answers.adds _ _ _ _ (with_turn t d.world) (with_turn t c.push_micro.new.self.world) refl
    (ap (λ (e : DocState). (opening_turn (with_turn t e.world) o, says o (replied nothing) ∷ [])) queued ∙ micro_queued t d.world o (string_bytes c.args.label))
    c.accept.ensures.done)
