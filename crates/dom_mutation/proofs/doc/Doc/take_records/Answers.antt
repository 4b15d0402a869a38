use Rattle.dom_mutation.proofs.Beside.{ready-beside}
use Rattle.dom_mutation.proofs.Cited.{◌∙◌, slice_get, tables_of, refl, all_tables}
use Rattle.dom_mutation.proofs.Observing.{observer_is, shown_one, taken_held, taken_nodes, taken_world}
use Rattle.dom_mutation.proofs.doc.Doc.take_records.Goals as goal

pub unreachable-requires : goal.unreachable-requires
unreachable-requires c =
    shown_one _ c.take.result (slice_get (tables_of c.parts.inside.observers c.args.owner).record_queues c.args.number) c.take.ensures.records
    (observer_is c.parts.inside.trees.forest c.parts.invariant (c.parts.view_is ∙ c.self.view_is) c.args.owner c.args.number ∙ c.requires) c.in_default.is

pub invariant_of-parts : goal.invariant_of-parts
invariant_of-parts c =
    taken_held c.parts.inside.trees.forest c.parts.invariant (c.parts.view_is ∙ c.self.view_is) c.args.owner c.args.number c.requires
    (tables_of c.take.new.self) c.take.ensures.tables

pub returns-clause-nodes : goal.returns-clause-nodes
returns-clause-nodes c =
    taken_nodes c.parts.inside.trees.forest c.parts.invariant (c.parts.view_is ∙ c.self.view_is) c.args.owner c.args.number c.requires
    (tables_of c.take.new.self) c.in-Some.records.items c.in-Some.ensures.records c.in-Some.ensures.tables

pub returns-clause-world : goal.returns-clause-world
returns-clause-world c =
    taken_world c.parts.inside.trees.forest c.parts.invariant (c.parts.view_is ∙ c.self.view_is) c.args.owner c.args.number c.requires
    (tables_of c.take.new.self) c.in-Some.records.items c.in-Some.ensures.records c.in-Some.ensures.tables

pub invariant_of-self : goal.invariant_of-self
invariant_of-self c =
    ready-beside c.parts.inside.trees.forest (all_tables c.parts.inside) c.parts.view_is c.self.invariant
    (record (all_tables c.parts.inside) { observers = tables_of c.take.new.self }) refl refl
