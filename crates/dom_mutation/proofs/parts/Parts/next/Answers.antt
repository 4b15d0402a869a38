use Rattle.dom_mutation.proofs.Cited.{next_sibling}
use Rattle.dom_mutation.proofs.OwnNodes.{next_near}
use Rattle.dom_mutation.proofs.Shown.{read_from}
use Rattle.dom_mutation.proofs.parts.Parts.next.Goals as goal

pub returns : goal.returns
returns c =
    let f = c.self.inside.trees.forest in
    read_from f c.self.invariant c.self.view_is next_sibling (next_near f.trees c.self.invariant.owned)
    c.next.ensures.value (λ r. r.behind) c.next.ensures.node
