use Rattle.dom_mutation.proofs.Cited.{parent_of}
use Rattle.dom_mutation.proofs.OwnNodes.{parent_near}
use Rattle.dom_mutation.proofs.Shown.{read_from}
use Rattle.dom_mutation.proofs.parts.Parts.parent.Goals as goal

pub returns : goal.returns
returns c =
    let f = c.self.inside.trees.forest in
    read_from f c.self.invariant c.self.view_is parent_of (parent_near f.trees c.self.invariant.owned)
    c.parent.ensures.value (λ r. r.parent) c.parent.ensures.node
