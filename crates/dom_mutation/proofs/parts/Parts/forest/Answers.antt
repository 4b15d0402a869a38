use Rattle.dom_mutation.proofs.Cited.{◌≡◌, subst, trees_of_owner, part_of, DocState}
use Rattle.dom_mutation.proofs.Shown.{own_in_part}
use Rattle.dom_mutation.proofs.parts.Parts.forest.Goals as goal

pub returns-clause-trees : goal.returns-clause-trees
returns-clause-trees c o =
    let f = c.self.inside.trees.forest in
    subst (λ (d : DocState). trees_of_owner o f.trees ≡ (part_of d.world o).trees) c.self.view_is (own_in_part f.names f.trees c.self.invariant o)
