use Rattle.dom_query_commands.proofs.Cited.{◌∷◌, ◌∙◌, [], Some, refl, sym, of_walker, sets_walker, nothing, part_of, Any, Walker, key_of, keeps, may_act}
use Rattle.dom_query_commands.proofs.Cited.{refused, namings}
use Rattle.dom_query_commands.proofs.cursors.set_walker.Goals as goal

pub returns-in_err-admit-clause-handled : goal.returns-in_err-admit-clause-handled
returns-in_err-admit-clause-handled g c =
    refused g.A.Answers.adds _ _ _ (Any c.args.current ∷ Walker c.args.number ∷ []) _ _ (search namings) c.admit.ensures c.in_err-admit.was
    c.from_residual.ensures.1

pub returns-clause-handled : goal.returns-clause-handled
returns-clause-handled g c =
    let current = key_of _ c.state.inside.doc _ c.state.view_is _ _ _ c.key-current.ensures.name in
    let p = part_of c.state.inside.doc.world c.args.owner in
    keeps g.A.Answers.adds _ c.state.inside.doc _ c.state.view_is
    (may_act _ _ _ (Any c.args.current ∷ Walker c.args.number ∷ []) (search namings) c.admit.ensures c.in_ok-admit.was) _ _ _ _ refl refl (
      sym (λ j. of_walker p c.args.number (λ w. sets_walker p c.args.number w (Some (current.number j)) nothing)) ∙ c.walk_set.ensures.world.0,
      c.walk_set.ensures.world.1,
    ) refl c.accept.ensures.done

pub walk_set-requires-clause-own : goal.walk_set-requires-clause-own
walk_set-requires-clause-own g c = (key_of _ c.state.inside.doc _ c.state.view_is _ _ _ c.key-current.ensures.name).mine
