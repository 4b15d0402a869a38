use Rattle.dom_mutation.proofs.Cited.{◌∷◌, ap, ◌∙◌, NodeName, next_name, part_of, owner-part_of}
use Rattle.dom_mutation.proofs.StillCalls.{IsPlanned, new-named, new-kind}
use Rattle.dom_mutation.proofs.still.law_new_node.Goals as goal

pub returns-clause-node : goal.returns-clause-node
returns-clause-node c = λ was now x more e. (new-named was now x more e).0

pub returns-clause-name : goal.returns-clause-name
returns-clause-name c = λ was now x more e. (new-named was now x more e).1

pub returns-clause-owner : goal.returns-clause-owner
returns-clause-owner c = λ was now o more e.
    ap (λ (y : NodeName). y.owner) (new-named was now (next_name (part_of was.world o)) more e).1 ∙ owner-part_of was.world o

pub returns-clause-kind : goal.returns-clause-kind
returns-clause-kind c = λ was now o plan n more h g e w f.
    let is : IsPlanned was now o plan (next_name (part_of was.world o) ∷ more) = record { before = h; after = g; names = e; world = w } in
    new-kind n is f
