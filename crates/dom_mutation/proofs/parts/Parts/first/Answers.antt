use Rattle.dom_mutation.proofs.Cited.{ap, first_of, children_of}
use Rattle.dom_mutation.proofs.OwnNodes.{first_near}
use Rattle.dom_mutation.proofs.Shown.{read_from}
use Rattle.dom_mutation.proofs.parts.Parts.first.Goals as goal

pub returns : goal.returns
returns c =
    let f = c.self.inside.trees.forest in
    read_from f c.self.invariant c.self.view_is (λ ts x. first_of (children_of ts x)) (first_near f.trees c.self.invariant.owned)
    c.first.ensures.value (λ r. ap (λ xs. first_of xs) r.children) c.first.ensures.node
