use Rattle.dom_mutation.proofs.Cited.{◌≡◌, true, sym, ap, subst, ◌∙◌, Part, part_of, is_there, DocState, all_tables, contents}
use Rattle.dom_mutation.proofs.Worlds.{part_at}
use Rattle.dom_mutation.proofs.doc.Doc.node_count.Goals as goal

pub returns : goal.returns
returns c =
    let f = c.parts.inside.trees.forest in
    let o = c.args.owner in
    subst (λ (e : DocState). is_there e.world o ≡ true → c.node_count.result ≡ (part_of e.world o).node_count) (c.parts.view_is ∙ c.self.view_is)
    (λ there. c.node_count.ensures ∙ sym (ap (λ (p : Part). p.node_count) (part_at (contents f.names f.trees (all_tables c.parts.inside)) o there)))
    c.requires
