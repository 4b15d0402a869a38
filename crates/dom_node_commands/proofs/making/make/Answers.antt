use Rattle.dom_node_commands.proofs.Handlers.{◌∙◌, ◌∷◌, ◌≡◌, Attribute, DocState, List, Node, NodeName, Option, [], a_node, ap, attributes_from, changes}
use Rattle.dom_node_commands.proofs.Handlers.{document_for, faults, make, making_is, may_act, name-last, name_at, next_name, none_refused, option_map, part_of}
use Rattle.dom_node_commands.proofs.Handlers.{plans, refused, refuses, string_bytes, subst, sym, with_turn, world_after}
use Rattle.dom_node_commands.proofs.making.make.Goals as goal

pub returns-in_err-admit-clause-handled : goal.returns-in_err-admit-clause-handled
returns-in_err-admit-clause-handled g c =
    let is = making_is _ _ _ c.requires.no_shadow c.requires.nameless c.requires.textless in
    refused g.A.Answers.adds _ _ _ [] _ _ (is.names_nothing _) c.admit.ensures c.in_err-admit.was c.from_residual.ensures.1

pub returns-in_err-key-clause-handled : goal.returns-in_err-key-clause-handled
returns-in_err-key-clause-handled g c =
    let is = making_is _ _ _ c.requires.no_shadow c.requires.nameless c.requires.textless in
    let e = c.in_err-key.ensures in
    faults g.A.Answers.adds _ c.state.inside.doc _ c.state.view_is (may_act _ _ _ [] (is.names_nothing _) c.admit.ensures c.in_ok-admit.was) _ _ _
    c.from_residual-in_err-key.ensures.1 (refuses (is.refused _) (λ r. (e.refused r).0)) (λ r h. e.err)

pub returns-clause-handled : goal.returns-clause-handled
returns-clause-handled g c =
    let is = making_is _ _ _ c.requires.no_shadow c.requires.nameless c.requires.textless in
    let d = c.state.inside.doc in
    let e = c.in_ok-key.ensures in
    let own = part_of d.world c.args.owner.now in
    let k = c.args.kind in
    let build : List Attribute → Option NodeName → Node = λ bs x. record {
      name = next_name own;
      kind = k;
      element = string_bytes c.args.element;
      attributes = bs;
      text = c.args.text.items;
      document = x;
    } in
    let document : option_map (name_at d.names) c.document_for.result ≡ document_for k own =
    subst (λ (s : DocState). option_map (name_at s.names) c.document_for.result ≡ document_for k (part_of s.world c.args.owner.now)) (sym c.state.view_is)
    c.document_for.ensures.value in
    let made_last = name-last d.names (next_name own) (c.forest.ensures.names ∙ e.names) e.key c.name-made.ensures.at in
    plans g.A.Answers.adds _ d _ c.state.view_is (may_act _ _ _ [] (is.names_nothing _) c.admit.ensures c.in_ok-admit.was) _ _ _ _
    (none_refused (is.refused _) c.in_ok-key.key e.refused) (is.runs (with_turn c.state.inside.turn d.world) c.args.owner.now)
    (ap (λ x. changes (make (build [] (document_for k own)) ∷ []) (a_node x)) made_last ∙ is.does own)
    (e.world ∙ (λ j. world_after c.args.owner.now d.world (make (build (attributes_from (c.new.ensures.empty j)) (document j)) ∷ [])))
    c.accept_node.ensures.done
