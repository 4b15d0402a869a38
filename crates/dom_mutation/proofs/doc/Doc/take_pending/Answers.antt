use Rattle.dom_mutation.proofs.Beside.{ready-beside}
use Rattle.dom_mutation.proofs.Cited.{tables_of, ◌∙◌, refl, all_tables}
use Rattle.dom_mutation.proofs.Observing.{pending_held, pending_world, pending_numbers, same_if}
use Rattle.dom_mutation.proofs.doc.Doc.take_pending.Goals as goal

pub invariant_of-parts : goal.invariant_of-parts
invariant_of-parts c =
    pending_held c.parts.inside.trees.forest c.parts.invariant (c.parts.view_is ∙ c.self.view_is) c.args.owner c.requires (tables_of c.take_pending.new.self)
    c.take_pending.result c.take_pending.ensures.err c.take_pending.ensures.tables

pub returns-clause-numbers : goal.returns-clause-numbers
returns-clause-numbers c =
    pending_numbers c.parts.inside.trees.forest c.parts.invariant (c.parts.view_is ∙ c.self.view_is) c.args.owner c.requires
    (tables_of c.take_pending.new.self)
    c.take_pending.result c.take_pending.ensures.numbers

pub returns-clause-world : goal.returns-clause-world
returns-clause-world c =
    pending_world c.parts.inside.trees.forest c.parts.invariant (c.parts.view_is ∙ c.self.view_is) c.args.owner c.requires (tables_of c.take_pending.new.self)
    c.take_pending.result c.take_pending.ensures.tables

pub returns-clause-err : goal.returns-clause-err
returns-clause-err c =
    same_if c.parts.inside.trees.forest c.parts.invariant (c.parts.view_is ∙ c.self.view_is) c.args.owner (tables_of c.take_pending.new.self)
    c.take_pending.result c.take_pending.ensures.err

pub invariant_of-self : goal.invariant_of-self
invariant_of-self c =
    ready-beside c.parts.inside.trees.forest (all_tables c.parts.inside) c.parts.view_is c.self.invariant
    (record (all_tables c.parts.inside) { observers = tables_of c.take_pending.new.self }) refl refl
