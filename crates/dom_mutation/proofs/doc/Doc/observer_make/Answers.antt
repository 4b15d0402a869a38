use Rattle.dom_mutation.proofs.Beside.{ready-beside}
use Rattle.dom_mutation.proofs.Cited.{◌≡◌, true, Err, subst, ◌↔◌, Refused, Limit, past_limit, tables_of, ◌∙◌, refl, all_tables}
use Rattle.dom_mutation.proofs.Observing.{made_held, made_world, count_is, same_if}
use Rattle.dom_mutation.proofs.doc.Doc.observer_make.Goals as goal

pub invariant_of-parts : goal.invariant_of-parts
invariant_of-parts c =
    made_held c.parts.inside.trees.forest c.parts.invariant (c.parts.view_is ∙ c.self.view_is) c.args.owner c.requires (tables_of c.make.new.self) c.make.result
    c.make.ensures.err c.make.ensures.tables

pub returns-clause-world : goal.returns-clause-world
returns-clause-world c =
    made_world c.parts.inside.trees.forest c.parts.invariant (c.parts.view_is ∙ c.self.view_is) c.args.owner c.requires (tables_of c.make.new.self)
    c.make.result c.make.ensures.err
    c.make.ensures.tables c.make.ensures.number

pub returns-clause-limit : goal.returns-clause-limit
returns-clause-limit c =
    subst (λ n. (c.make.result ≡ Err (Refused Limit)) ↔ (past_limit n 1 ≡ true))
    (count_is c.parts.inside.trees.forest c.parts.invariant (c.parts.view_is ∙ c.self.view_is) c.args.owner) c.make.ensures.limit

pub returns-clause-err : goal.returns-clause-err
returns-clause-err c =
    same_if c.parts.inside.trees.forest c.parts.invariant (c.parts.view_is ∙ c.self.view_is) c.args.owner (tables_of c.make.new.self) c.make.result
    c.make.ensures.err

pub invariant_of-self : goal.invariant_of-self
invariant_of-self c =
    ready-beside c.parts.inside.trees.forest (all_tables c.parts.inside) c.parts.view_is c.self.invariant
    (record (all_tables c.parts.inside) { observers = tables_of c.make.new.self }) refl refl
