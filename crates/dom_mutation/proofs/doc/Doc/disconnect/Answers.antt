use Rattle.dom_mutation.proofs.Beside.{ready-beside}
use Rattle.dom_mutation.proofs.Cited.{tables_of, ◌∙◌, refl, all_tables}
use Rattle.dom_mutation.proofs.Observing.{disconnected_held, disconnected_world}
use Rattle.dom_mutation.proofs.doc.Doc.disconnect.Goals as goal

pub invariant_of-parts : goal.invariant_of-parts
invariant_of-parts c =
    disconnected_held c.parts.inside.trees.forest c.parts.invariant (c.parts.view_is ∙ c.self.view_is) c.args.owner c.args.number c.requires
    (tables_of c.disconnect.new.self)
    c.disconnect.result c.disconnect.ensures.value c.disconnect.ensures.tables

pub returns-clause-world : goal.returns-clause-world
returns-clause-world c =
    disconnected_world c.parts.inside.trees.forest c.parts.invariant (c.parts.view_is ∙ c.self.view_is) c.args.owner c.args.number c.requires
    (tables_of c.disconnect.new.self)
    c.disconnect.result c.disconnect.ensures.value c.disconnect.ensures.tables

pub invariant_of-self : goal.invariant_of-self
invariant_of-self c =
    ready-beside c.parts.inside.trees.forest (all_tables c.parts.inside) c.parts.view_is c.self.invariant
    (record (all_tables c.parts.inside) { observers = tables_of c.disconnect.new.self }) refl refl
