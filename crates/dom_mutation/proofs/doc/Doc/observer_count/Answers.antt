use Rattle.dom_mutation.proofs.Cited.{◌∙◌}
use Rattle.dom_mutation.proofs.Observing.{count_is}
use Rattle.dom_mutation.proofs.doc.Doc.observer_count.Goals as goal

pub returns : goal.returns
returns c = c.count.ensures ∙ count_is c.parts.inside.trees.forest c.parts.invariant (c.parts.view_is ∙ c.self.view_is) c.args.owner
