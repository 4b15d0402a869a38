use Rattle.dom_mutation.proofs.Cited.{previous_sibling}
use Rattle.dom_mutation.proofs.OwnNodes.{previous_near}
use Rattle.dom_mutation.proofs.Shown.{read_from}
use Rattle.dom_mutation.proofs.parts.Parts.prev.Goals as goal

pub returns : goal.returns
returns c =
    let f = c.self.inside.trees.forest in
    read_from f c.self.invariant c.self.view_is previous_sibling (previous_near f.trees c.self.invariant.owned)
    c.prev.ensures.value (λ r. r.before) c.prev.ensures.node
