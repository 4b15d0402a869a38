use Rattle.dom_mutation.proofs.Beside.{ready-beside}
use Rattle.dom_mutation.proofs.Cited.{refl, tables_of, ◌∙◌, all_tables}
use Rattle.dom_mutation.proofs.Observing.{none_held, notified_held, notified_world, notified_notices, notified_nodes}
use Rattle.dom_mutation.proofs.doc.Doc.notify.Goals as goal

pub invariant_of-parts : goal.invariant_of-parts
invariant_of-parts c =
    notified_held c.parts.inside.trees.forest c.parts.invariant (c.parts.view_is ∙ c.self.view_is) c.args.owner c.requires (tables_of c.notify.new.self)
    c.in-Ok.ensures.tables

pub invariant_of-parts-in-Err : goal.invariant_of-parts-in-Err
invariant_of-parts-in-Err c =
    none_held c.parts.inside.trees.forest c.parts.invariant (c.parts.view_is ∙ c.self.view_is) c.args.owner (tables_of c.give_up_observers.new.observers)
    c.give_up_observers.ensures

pub returns-clause-notices : goal.returns-clause-notices
returns-clause-notices c =
    notified_notices c.parts.inside.trees.forest c.parts.invariant (c.parts.view_is ∙ c.self.view_is) c.args.owner c.requires (tables_of c.notify.new.self)
    c.in-Ok.notices.items
    c.in-Ok.ensures.notices

pub returns-clause-nodes : goal.returns-clause-nodes
returns-clause-nodes c =
    notified_nodes c.parts.inside.trees.forest c.parts.invariant (c.parts.view_is ∙ c.self.view_is) c.args.owner c.requires (tables_of c.notify.new.self)
    c.in-Ok.notices.items
    c.in-Ok.ensures.notices

pub returns-clause-world : goal.returns-clause-world
returns-clause-world c =
    notified_world c.parts.inside.trees.forest c.parts.invariant (c.parts.view_is ∙ c.self.view_is) c.args.owner c.requires (tables_of c.notify.new.self)
    c.in-Ok.ensures.tables

pub invariant_of-self-2 : goal.invariant_of-self-2
invariant_of-self-2 c =
    ready-beside c.parts.inside.trees.forest (all_tables c.parts.inside) c.parts.view_is c.self.invariant
    (record (all_tables c.parts.inside) { observers = tables_of c.notify.new.self }) refl refl

pub invariant_of-self : goal.invariant_of-self
invariant_of-self c =
    ready-beside c.parts.inside.trees.forest (all_tables c.parts.inside) c.parts.view_is c.self.invariant
    (record (all_tables c.parts.inside) { observers = tables_of c.give_up_observers.new.observers }) refl refl
