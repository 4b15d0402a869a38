use Rattle.dom_mutation.proofs.ReadyTables.{range_new-ready}
use Rattle.dom_mutation.proofs.ReadyCalls.{table-answered, at_first}
use Rattle.dom_mutation.proofs.Cited.{◌∙◌, Command, a_range, all_tables, state_from, with_live}
use Rattle.dom_mutation.proofs.RangeCommands.{make_held, make_makes, range_limit, same_if}
use Rattle.dom_mutation.proofs.doc.Doc.range_make.Goals as goal

pub invariant_of-parts : goal.invariant_of-parts
invariant_of-parts c =
    make_held c.parts.inside.trees.forest c.parts.invariant (c.parts.view_is ∙ c.self.view_is) c.args.owner c.args.first c.requires.first_is_node
    c.requires.is_first
    c.make.new.self c.make.result c.make.ensures.made c.make.ensures.limit c.make.ensures.err

pub returns-clause-world : goal.returns-clause-world
returns-clause-world c =
    make_makes c.parts.inside.trees.forest c.parts.invariant (c.parts.view_is ∙ c.self.view_is) c.args.owner c.args.first c.requires.first_is_node
    c.requires.is_first
    c.make.new.self c.make.result c.make.ensures.made c.make.ensures.number

pub returns-clause-limit : goal.returns-clause-limit
returns-clause-limit c =
    range_limit c.parts.inside.trees.forest c.parts.invariant (c.parts.view_is ∙ c.self.view_is) c.args.owner c.args.first c.requires.first_is_node
    c.requires.is_first
    c.make.ensures.limit

pub returns-clause-err : goal.returns-clause-err
returns-clause-err c =
    same_if c.parts.inside.trees.forest c.parts.invariant (c.parts.view_is ∙ c.self.view_is) c.args.owner c.make.new.self c.make.result c.make.ensures.err

pub invariant_of-self : goal.invariant_of-self
invariant_of-self c =
    let d = c.args.self.now in
    table-answered d (state_from c.parts.inside.trees.forest.names c.parts.inside.trees.forest.trees (with_live (all_tables c.parts.inside) c.make.new.self))
    c.args.owner Command.range_new c.laws.ensures.ready
    (λ r. range_new-ready _ r (at_first d c.args.owner (record { alone = c.laws.ensures.alone; parts = c.laws.ensures.parts; stand = c.laws.ensures.stand })
    (record { first = c.args.first; there = c.requires.first_is_node; named = c.requires.is_first })))
    c.make.result a_range
    (make_makes c.parts.inside.trees.forest c.parts.invariant (c.parts.view_is ∙ c.self.view_is) c.args.owner c.args.first c.requires.first_is_node
    c.requires.is_first c.make.new.self c.make.result c.make.ensures.made c.make.ensures.number)
    (same_if c.parts.inside.trees.forest c.parts.invariant (c.parts.view_is ∙ c.self.view_is) c.args.owner c.make.new.self c.make.result c.make.ensures.err)
