use Rattle.dom_mutation.proofs.Cited.{index_of, ◌∙◌}
use Rattle.dom_mutation.proofs.Shown.{shown}
use Rattle.dom_mutation.proofs.doc.Doc.index.Goals as goal

pub returns : goal.returns
returns c =
    shown c.parts.inside.trees.forest c.parts.invariant (c.parts.view_is ∙ c.self.view_is) index_of (λ ns. c.index.result) c.args.node c.index.ensures
    (λ r. r.index)
