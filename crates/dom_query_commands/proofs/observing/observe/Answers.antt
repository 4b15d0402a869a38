use Rattle.dom_query_commands.proofs.Cited.{◌∷◌, ◌∙◌, [], refl, sym, answers, name_eq, asks_for_nothing, options_of, with_registration, nothing, part_of, Any}
use Rattle.dom_query_commands.proofs.Cited.{Observer, key_of, faults, keeps, may_act, refused, lone_passes, lone_refuses, namings}
use Rattle.dom_query_commands.proofs.observing.observe.Goals as goal

pub returns-in_err-admit-clause-handled : goal.returns-in_err-admit-clause-handled
returns-in_err-admit-clause-handled g c =
    refused g.A.Answers.adds _ _ _ (Any c.args.node ∷ Observer c.args.number ∷ []) _ _ (search namings) c.admit.ensures c.in_err-admit.was
    c.from_residual.ensures.1

pub returns-in_err-observe-clause-handled : goal.returns-in_err-observe-clause-handled
returns-in_err-observe-clause-handled g c =
    let e = c.in_err-observe.ensures in
    faults g.A.Answers.adds _ c.state.inside.doc _ c.state.view_is
    (may_act _ _ _ (Any c.args.node ∷ Observer c.args.number ∷ []) (search namings) c.admit.ensures c.in_ok-admit.was) _ _ _
    c.from_residual-in_err-observe.ensures.1 (lone_refuses (λ j. asks_for_nothing (options_of (c.observer_options.ensures j))) e.no_kind e.other) (λ r h. e.err)

pub returns-clause-handled : goal.returns-clause-handled
returns-clause-handled g c =
    let node = key_of _ c.state.inside.doc _ c.state.view_is _ _ _ c.key-node.ensures.name in
    let e = c.in_ok-observe.ensures in
    let p = part_of c.state.inside.doc.world c.args.owner in
    keeps g.A.Answers.adds _ c.state.inside.doc _ c.state.view_is
    (may_act _ _ _ (Any c.args.node ∷ Observer c.args.number ∷ []) (search namings) c.admit.ensures c.in_ok-admit.was) _ _ _ _
    (lone_passes _ (λ j. asks_for_nothing (options_of (c.observer_options.ensures j))) e.no_kind) refl (
      sym (λ j. answers (record p {
        registrations = with_registration name_eq c.args.number (node.number j) (options_of (c.observer_options.ensures j))
            p.registrations;
      }) nothing) ∙ e.world.0,
      e.world.1,
    ) refl c.accept.ensures.done

pub observe-requires-clause-own : goal.observe-requires-clause-own
observe-requires-clause-own g c = (key_of _ c.state.inside.doc _ c.state.view_is _ _ _ c.key-node.ensures.name).mine
