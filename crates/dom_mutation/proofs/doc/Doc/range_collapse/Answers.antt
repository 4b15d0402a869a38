use Rattle.dom_mutation.proofs.ReadyTables.{range_collapse-ready}
use Rattle.dom_mutation.proofs.ReadyCalls.{table-ready}
use Rattle.dom_mutation.proofs.Cited.{◌∙◌, Command, all_tables, state_from, with_live}
use Rattle.dom_mutation.proofs.RangeCommands.{collapse_held, collapse_makes}
use Rattle.dom_mutation.proofs.doc.Doc.range_collapse.Goals as goal

pub invariant_of-parts : goal.invariant_of-parts
invariant_of-parts c =
    collapse_held c.parts.inside.trees.forest c.parts.invariant (c.parts.view_is ∙ c.self.view_is) c.args.owner c.args.number c.requires c.collapse.new.self
    c.args.to_start c.collapse.ensures.table

pub returns-clause-world : goal.returns-clause-world
returns-clause-world c = collapse_makes c.parts.inside.trees.forest c.parts.invariant (c.parts.view_is ∙ c.self.view_is) c.args.owner c.args.number c.requires
    c.collapse.new.self c.args.to_start c.collapse.ensures.table

pub invariant_of-self : goal.invariant_of-self
invariant_of-self c =
    table-ready c.args.self.now (state_from c.parts.inside.trees.forest.names c.parts.inside.trees.forest.trees
    (with_live (all_tables c.parts.inside) c.collapse.new.self))
    c.args.owner (Command.range_collapse c.args.number c.args.to_start) c.laws.ensures.ready
    (λ r. range_collapse-ready _ r c.args.number c.args.to_start (c.laws.ensures.parts c.args.owner))
    (collapse_makes c.parts.inside.trees.forest c.parts.invariant (c.parts.view_is ∙ c.self.view_is) c.args.owner c.args.number c.requires
    c.collapse.new.self c.args.to_start c.collapse.ensures.table)
