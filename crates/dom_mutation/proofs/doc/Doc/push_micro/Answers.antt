use Rattle.dom_mutation.proofs.Beside.{ready-beside}
use Rattle.dom_mutation.proofs.Cited.{◌∷◌, ◌++◌, [], micro_task, ◌∙◌, refl, all_tables}
use Rattle.dom_mutation.proofs.Tasks.{pushed, pushed_none, held_pushed}
use Rattle.dom_mutation.proofs.doc.Doc.push_micro.Goals as goal

pub invariant_of-parts : goal.invariant_of-parts
invariant_of-parts c =
    held_pushed c.parts.inside.trees.forest c.parts.invariant (c.parts.view_is ∙ c.self.view_is) c.push_micro.new.self
    (micro_task c.args.owner c.args.label.items) tt
    c.push_micro.result c.push_micro.ensures.ok c.push_micro.ensures.err

pub returns-clause-ok : goal.returns-clause-ok
returns-clause-ok c =
    pushed c.parts.inside.trees.forest c.parts.invariant (c.parts.view_is ∙ c.self.view_is) c.push_micro.new.self
    (λ ts. ts ++ micro_task c.args.owner c.args.label.items ∷ []) c.push_micro.result c.push_micro.ensures.ok

pub returns-clause-err : goal.returns-clause-err
returns-clause-err c =
    pushed_none c.parts.inside.trees.forest c.parts.invariant (c.parts.view_is ∙ c.self.view_is) c.push_micro.new.self c.push_micro.result
    c.push_micro.ensures.err

pub invariant_of-self : goal.invariant_of-self
invariant_of-self c =
    ready-beside c.parts.inside.trees.forest (all_tables c.parts.inside) c.parts.view_is c.self.invariant
    (record (all_tables c.parts.inside) { tasks = c.push_micro.new.self }) refl refl
