use Rattle.dom_mutation.proofs.Cited.{◌≡◌, ap, sym, subst, ◌∙◌, NodeName, owner_depth, is_document, kind_of, root_of, is_connected, shadows, name_at, DocState}
use Rattle.dom_mutation.proofs.Cited.{name_in, outermost_root}
use Rattle.dom_mutation.proofs.Connected.{connected_held}
use Rattle.dom_mutation.proofs.doc.Doc.is_connected.Goals as goal

pub returns : goal.returns
returns c =
    let f = c.parts.inside.trees.forest in
    let s = shadows f c.parts.inside.trees.slots.hosts in
    let x = name_at f.names c.args.node in
    let depth = c.depth-depth.ensures ∙ ap (λ (y : NodeName). owner_depth y.owner) (sym c.name.ensures.at) in
    subst (λ (d : DocState). c.is_document.result ≡ is_connected d.world (name_in d c.args.node)) (c.parts.view_is ∙ c.self.view_is)
    (c.is_document.ensures
    ∙ (ap is_document (c.kind.ensures ∙ ap (kind_of f.trees) (c.outermost_root-root.ensures.value ∙ ap (λ n. outermost_root s n (root_of f.trees x)) depth))
    ∙ sym (connected_held f c.parts.invariant c.law_nodes_stand_once.ensures.once x)))
