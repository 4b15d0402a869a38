use Rattle.dom_node_commands.proofs.Handlers.{◌∙◌, Node, Some, ap, if◌then◌else◌, is_document, is_some, name_in}
use Rattle.dom_node_commands.proofs.Handlers.{no_node-absent, node_in, node_of, option_map, own, own_document, part_of, sym, told_here, trees_in}
use Rattle.dom_node_commands.proofs.making.first_document.Goals as goal

pub returns-in_err-first-clause-value : goal.returns-in_err-first-clause-value
returns-in_err-first-clause-value c =
    let p = part_of c.args.state.now.world c.args.owner.now in
    let x = node_of p.owner 0 in
    ap (option_map (name_in c.args.state.now)) c.from_residual.ensures ∙ ap (λ (n : Node). if is_document n.kind then Some x else n.document)
    (no_node-absent p.trees x (sym c.find.ensures.presence ∙ ap is_some c.in_err-first.was))

pub kind-requires : goal.kind-requires
kind-requires c = (c.find.ensures.found c.in_ok-first.first c.in_ok-first.was).0

pub returns-then-is_document-clause-value : goal.returns-then-is_document-clause-value
returns-then-is_document-clause-value c =
    let s = c.args.state.now in
    let said = sym c.if-is_document.true ∙ c.is_document.ensures ∙ ap is_document c.kind.ensures in
    (λ j. if said j then Some (name_in s c.in_ok-first.first) else (node_in (trees_in s c.in_ok-first.first) (name_in s c.in_ok-first.first)).document)
    ∙ told_here s _ (own 0) _ (c.find.ensures.found _ c.in_ok-first.was).1 (λ p x. own_document p.trees x)

pub returns-else-is_document-clause-value : goal.returns-else-is_document-clause-value
returns-else-is_document-clause-value c =
    let s = c.args.state.now in
    let said = sym c.if-is_document.false ∙ c.is_document.ensures ∙ ap is_document c.kind.ensures in
    c.document_of.ensures.value
    ∙ (λ j. if said j then Some (name_in s c.in_ok-first.first) else (node_in (trees_in s c.in_ok-first.first) (name_in s c.in_ok-first.first)).document)
    ∙ told_here s _ (own 0) _ (c.find.ensures.found _ c.in_ok-first.was).1 (λ p x. own_document p.trees x)
