use Rattle.dom_mutation.proofs.Cited.{ap, kind_of}
use Rattle.dom_mutation.proofs.Shown.{shown}
use Rattle.dom_mutation.proofs.parts.Parts.kind.Goals as goal

pub returns : goal.returns
returns c =
    shown c.self.inside.trees.forest c.self.invariant c.self.view_is kind_of (λ ns. c.kind.result) c.args.node c.kind.ensures (λ r. ap (λ n. n.kind) r.node)
