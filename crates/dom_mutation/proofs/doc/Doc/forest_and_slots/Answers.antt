use Rattle.dom_mutation.proofs.Cited.{◌≡◌, subst, trees_of_owner, part_of, IsShownBy, shadows, DocState, contents, all_tables, ◌∙◌}
use Rattle.dom_mutation.proofs.DocInvariant.{are_hosts}
use Rattle.dom_mutation.proofs.HostedWorlds.{world_shown}
use Rattle.dom_mutation.proofs.Shown.{own_in_part}
use Rattle.dom_mutation.proofs.doc.Doc.forest_and_slots.Goals as goal

pub returns-clause-trees : goal.returns-clause-trees
returns-clause-trees c o =
    let f = c.parts.inside.trees.forest in
    subst (λ (d : DocState). trees_of_owner o f.trees ≡ (part_of d.world o).trees) (c.parts.view_is ∙ c.self.view_is)
    (own_in_part f.names f.trees c.parts.invariant o)

pub returns-clause-shown : goal.returns-clause-shown
returns-clause-shown c =
    let f = c.parts.inside.trees.forest in
    subst (λ (d : DocState). IsShownBy (shadows f c.parts.inside.trees.slots.hosts) d.world) (c.parts.view_is ∙ c.self.view_is)
    (world_shown (contents f.names f.trees (all_tables c.parts.inside)) c.parts.inside.trees.slots.hosts
    (are_hosts f.names f.trees (all_tables c.parts.inside) c.parts.invariant))
