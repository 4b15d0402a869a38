use Rattle.dom_mutation.proofs.ReadyTables.{range_drop-ready}
use Rattle.dom_mutation.proofs.ReadyCalls.{table-ready}
use Rattle.dom_mutation.proofs.Cited.{◌∙◌, Command, all_tables, state_from, with_live, subst, IsReady}
use Rattle.dom_mutation.proofs.RangeCommands.{drop_held, drop_makes}
use Rattle.dom_mutation.proofs.doc.Doc.range_remove.Goals as goal

pub invariant_of-parts : goal.invariant_of-parts
invariant_of-parts c =
    drop_held c.parts.inside.trees.forest c.parts.invariant (c.parts.view_is ∙ c.self.view_is) c.args.owner c.args.number c.requires c.remove.new.self
    c.remove.ensures.table

pub returns-clause-world : goal.returns-clause-world
returns-clause-world c =
    drop_makes c.parts.inside.trees.forest c.parts.invariant (c.parts.view_is ∙ c.self.view_is) c.args.owner c.args.number c.requires c.remove.new.self
    c.remove.ensures.table

pub invariant_of-self : goal.invariant_of-self
invariant_of-self c =
    table-ready c.args.self.now (state_from c.parts.inside.trees.forest.names c.parts.inside.trees.forest.trees
    (with_live (all_tables c.parts.inside) c.remove.new.self))
    c.args.owner (Command.range_drop c.args.number) (subst IsReady c.self.view_is c.self.invariant) (λ r. range_drop-ready _ r c.args.number)
    (drop_makes c.parts.inside.trees.forest c.parts.invariant (c.parts.view_is ∙ c.self.view_is) c.args.owner c.args.number c.requires
    c.remove.new.self c.remove.ensures.table)
