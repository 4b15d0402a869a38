use Rattle.dom_mutation.proofs.Cited.{◌∙◌}
use Rattle.dom_mutation.proofs.Observing.{observer_is}
use Rattle.dom_mutation.proofs.doc.Doc.has_observer.Goals as goal

pub returns : goal.returns
returns c = c.has.ensures ∙ observer_is c.parts.inside.trees.forest c.parts.invariant (c.parts.view_is ∙ c.self.view_is) c.args.owner c.args.number
