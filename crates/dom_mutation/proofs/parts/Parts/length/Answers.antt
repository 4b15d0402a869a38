use Rattle.dom_mutation.proofs.Cited.{length_of}
use Rattle.dom_mutation.proofs.Shown.{shown}
use Rattle.dom_mutation.proofs.parts.Parts.length.Goals as goal

pub returns : goal.returns
returns c = shown c.self.inside.trees.forest c.self.invariant c.self.view_is length_of (λ ns. c.length.result) c.args.node c.length.ensures (λ r. r.size)
