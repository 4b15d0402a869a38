use Rattle.dom_mutation.proofs.Cited.{ap, node_in}
use Rattle.dom_mutation.proofs.Shown.{shown}
use Rattle.dom_mutation.proofs.parts.Parts.text.Goals as goal

pub returns : goal.returns
returns c = shown c.self.inside.trees.forest c.self.invariant c.self.view_is (λ ts x. (node_in ts x).text) (λ ns. c.text.result.now) c.args.node
    c.text.ensures (λ r. ap (λ n. n.text) r.node)
