use Rattle.dom_mutation.proofs.Beside.{ready-beside}
use Rattle.dom_mutation.proofs.Cited.{tables_of, ◌∙◌, refl, all_tables}
use Rattle.dom_mutation.proofs.Observing.{telling_held, telling_world, telling_records, telling_nodes}
use Rattle.dom_mutation.proofs.doc.Doc.tell.Goals as goal

pub invariant_of-parts : goal.invariant_of-parts
invariant_of-parts c =
    telling_held c.parts.inside.trees.forest c.parts.invariant (c.parts.view_is ∙ c.self.view_is) c.args.owner c.requires (tables_of c.tell.new.self)
    c.args.number c.tell.ensures.tables

pub returns-clause-records : goal.returns-clause-records
returns-clause-records c =
    telling_records c.parts.inside.trees.forest c.parts.invariant (c.parts.view_is ∙ c.self.view_is) c.args.owner c.requires (tables_of c.tell.new.self)
    c.args.number c.tell.result.items c.tell.ensures.records

pub returns-clause-nodes : goal.returns-clause-nodes
returns-clause-nodes c =
    telling_nodes c.parts.inside.trees.forest c.parts.invariant (c.parts.view_is ∙ c.self.view_is) c.args.owner c.requires (tables_of c.tell.new.self)
    c.args.number c.tell.result.items c.tell.ensures.records

pub returns-clause-world : goal.returns-clause-world
returns-clause-world c =
    telling_world c.parts.inside.trees.forest c.parts.invariant (c.parts.view_is ∙ c.self.view_is) c.args.owner c.requires (tables_of c.tell.new.self)
    c.args.number c.tell.ensures.tables

pub invariant_of-self : goal.invariant_of-self
invariant_of-self c =
    ready-beside c.parts.inside.trees.forest (all_tables c.parts.inside) c.parts.view_is c.self.invariant
    (record (all_tables c.parts.inside) { observers = tables_of c.tell.new.self }) refl refl
