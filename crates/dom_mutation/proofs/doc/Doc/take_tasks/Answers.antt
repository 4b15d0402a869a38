use Rattle.dom_mutation.proofs.Beside.{ready-beside}
use Rattle.dom_mutation.proofs.Cited.{[], sym, subst, ◌∙◌, AllByRecursion, all_tables, IsDue, world_from, refl}
use Rattle.dom_mutation.proofs.Tasks.{tasks_are, queued}
use Rattle.dom_mutation.proofs.DocInvariant.{held_tasks}
use Rattle.dom_mutation.proofs.doc.Doc.take_tasks.Goals as goal

pub invariant_of-parts : goal.invariant_of-parts
invariant_of-parts c = held_tasks c.parts.inside.trees.forest.names c.parts.inside.trees.forest.trees (all_tables c.parts.inside) c.parts.invariant
    c.replace.new.dest (subst (AllByRecursion
    (IsDue (world_from c.parts.inside.trees.forest.names c.parts.inside.trees.forest.trees (all_tables c.parts.inside))))
    (sym (c.replace.ensures.after ∙ c.new.ensures)) tt)

pub returns-clause-tasks : goal.returns-clause-tasks
returns-clause-tasks c = c.replace.ensures.value ∙ tasks_are c.parts.inside.trees.forest c.parts.invariant (c.parts.view_is ∙ c.self.view_is)

pub returns-clause-rest : goal.returns-clause-rest
returns-clause-rest c =
    queued c.parts.inside.trees.forest c.parts.invariant (c.parts.view_is ∙ c.self.view_is) c.replace.new.dest (λ ts. [])
    (c.replace.ensures.after ∙ c.new.ensures)

pub invariant_of-self : goal.invariant_of-self
invariant_of-self c =
    ready-beside c.parts.inside.trees.forest (all_tables c.parts.inside) c.parts.view_is c.self.invariant
    (record (all_tables c.parts.inside) { tasks = c.replace.new.dest }) refl refl
