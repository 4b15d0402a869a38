use Rattle.dom_mutation.proofs.Cited.{ap, last_of, children_of}
use Rattle.dom_mutation.proofs.OwnNodes.{last_near}
use Rattle.dom_mutation.proofs.Shown.{read_from}
use Rattle.dom_mutation.proofs.parts.Parts.last.Goals as goal

pub returns : goal.returns
returns c =
    let f = c.self.inside.trees.forest in
    read_from f c.self.invariant c.self.view_is (λ ts x. last_of (children_of ts x)) (last_near f.trees c.self.invariant.owned)
    c.last.ensures.value (λ r. ap (λ xs. last_of xs) r.children) c.last.ensures.node
