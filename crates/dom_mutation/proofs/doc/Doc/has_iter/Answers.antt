use Rattle.dom_mutation.proofs.Cited.{◌∙◌}
use Rattle.dom_mutation.proofs.CursorCommands.{iter_is}
use Rattle.dom_mutation.proofs.doc.Doc.has_iter.Goals as goal

pub returns : goal.returns
returns c = c.has_iter.ensures ∙ iter_is c.parts.inside.trees.forest c.parts.invariant (c.parts.view_is ∙ c.self.view_is) c.args.owner c.args.number
