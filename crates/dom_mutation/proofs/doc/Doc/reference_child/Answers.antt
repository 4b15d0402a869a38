use Rattle.dom_mutation.proofs.Cited.{subst, sym}
use Rattle.dom_mutation.specs.Definitions.{DocState, IsChild}
use Rattle.dom_mutation.proofs.doc.Doc.reference_child.Goals as goal

pub reference_child-requires-clause-child_is_child : goal.reference_child-requires-clause-child_is_child
reference_child-requires-clause-child_is_child c x is =
    subst (λ (d : DocState). IsChild d c.args.parent x) (sym c.self.view_is) (c.requires.child_is_child x is)
