use Rattle.dom_node_commands.proofs.Handlers.{◌++◌, ◌∙◌, ◌∷◌, Err, Text, [], a_node, ap, changes, faults, key_of, kind_in, makes, may_act, name-last, named}
use Rattle.dom_node_commands.proofs.Handlers.{namings, next_name, none_stopped, part_of, refl, refused, refuses, splitting, splitting_refusal, told_one}
use Rattle.dom_node_commands.proofs.Handlers.{word_view}
use Rattle.dom_node_commands.proofs.data.split.Goals as goal

pub returns-in_err-node-clause-handled : goal.returns-in_err-node-clause-handled
returns-in_err-node-clause-handled g c =
    refused g.A.Answers.adds _ _ _ (Text c.args.node ∷ []) _ _ (search namings) c.in_err-node.ensures.passed refl c.from_residual.ensures.1

pub returns-in_err-tail-clause-handled : goal.returns-in_err-tail-clause-handled
returns-in_err-tail-clause-handled g c =
    let same = told_one (λ p x. splitting_refusal p x c.args.offset) (key_of _ c.state.inside.doc _ c.state.view_is _ _ _ c.in_ok-node.ensures.key.name) in
    faults g.A.Answers.adds _ c.state.inside.doc _ c.state.view_is
    (may_act _ _ _ (Text c.args.node ∷ []) (search namings) c.in_ok-node.ensures.passed refl) _ _ _
    c.from_residual-in_err-tail.ensures.1 (refuses same c.in_err-tail.ensures.refused) (λ r h. c.in_err-tail.ensures.unchanged r (ap Err h))

pub returns-clause-handled : goal.returns-clause-handled
returns-clause-handled g c =
    let d = c.state.inside.doc in
    let node = key_of _ d _ c.state.view_is _ _ _ c.in_ok-node.ensures.key.name in
    let e = c.in_ok-tail.ensures in
    let p = part_of d.world c.args.owner.now in
    let names = c.forest.ensures.names ∙ e.names ∙ told_one (λ q x. d.names ++ next_name q ∷ []) node in
    makes g.A.Answers.adds (λ x. splitting x c.args.offset) _ d _ c.state.view_is
    (may_act _ _ _ (Text c.args.node ∷ []) (search namings) c.in_ok-node.ensures.passed refl) _ _ _ _ _ _ c.in_ok-node.ensures.key.name
    (none_stopped (told_one (λ q x. splitting_refusal q x c.args.offset) node) c.in_ok-tail.tail e.stopped) refl
    (ap (changes (splitting (named p (word_view c.args.node)) c.args.offset p))
    (ap a_node (name-last d.names (next_name p) names e.key c.name-made.ensures.at))) e.world c.accept_node.ensures.done

pub split-requires-clause-text : goal.split-requires-clause-text
split-requires-clause-text g c = kind_in _ c.state.inside.doc _ (Text c.args.node) _ c.state.view_is c.in_ok-node.ensures.key.kind
