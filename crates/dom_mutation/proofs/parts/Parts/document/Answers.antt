use Rattle.dom_mutation.proofs.Cited.{option_map, ap, node_in, name_at}
use Rattle.dom_mutation.proofs.Shown.{shown}
use Rattle.dom_mutation.proofs.parts.Parts.document.Goals as goal

pub returns-clause-value : goal.returns-clause-value
returns-clause-value c =
    shown c.self.inside.trees.forest c.self.invariant c.self.view_is (λ ts x. (node_in ts x).document) (λ ns. option_map (name_at ns) c.document.result)
    c.args.node c.document.ensures.value (λ r. ap (λ n. n.document) r.node)
