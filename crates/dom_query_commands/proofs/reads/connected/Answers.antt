use Rattle.dom_query_commands.proofs.Cited.{◌∷◌, ◌∙◌, ◌≡◌, [], ap, refl, sym, named, a_truth, is_connected, part_of, Any, word_view, key_of, asks, may_act}
use Rattle.dom_query_commands.proofs.Cited.{refused, namings}
use Rattle.dom_query_commands.proofs.Connecting.{connected-opened, connected-turned}
use Rattle.dom_query_commands.proofs.reads.connected.Goals as goal

pub returns-in_err-node-clause-handled : goal.returns-in_err-node-clause-handled
returns-in_err-node-clause-handled g c =
    refused g.A.Answers.adds _ _ _ (Any c.args.node ∷ []) _ _ (search namings) c.in_err-node.ensures.passed refl c.from_residual.ensures.1

pub returns-clause-handled : goal.returns-clause-handled
returns-clause-handled g c =
    let w = c.args.state.now.world in
    let d = c.state.inside.doc in
    let s = word_view c.args.node in
    let node = key_of _ c.state.inside.doc _ c.state.view_is _ _ _ c.in_ok-node.ensures.key.name in
    let told : c.is_connected-connected.result ≡ is_connected w (named (part_of w c.args.owner) s) =
    rw (← c.state.view_is) (c.is_connected-connected.ensures ∙ ap (is_connected d.world) node.name
    ∙ sym (connected-turned c.state.inside.turn d.world (named (part_of d.world c.args.owner) s))) in
    asks g.A.Answers.adds (may_act _ _ _ (Any c.args.node ∷ []) (search namings) c.in_ok-node.ensures.passed refl) _ _ _ _ refl refl
    (ap a_truth (told ∙ connected-opened w c.args.owner s)) c.accept.ensures.done
