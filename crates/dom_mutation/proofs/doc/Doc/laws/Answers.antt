use Rattle.dom_mutation.proofs.Cited.{◌≤◌, subst, count_by, name_eq, Node, nodes, part_of, IsReady}
use Rattle.dom_mutation.specs.Definitions.{DocState}
use Rattle.dom_mutation.proofs.doc.Doc.laws.Goals as goal

pub returns-clause-once : goal.returns-clause-once
returns-clause-once c o x =
    subst (λ (d : DocState). count_by (λ (n : Node). name_eq n.name x) (nodes (part_of d.world o).trees) ≤ 1) c.self.view_is (c.laws.ensures.once o x)

pub returns-clause-ready : goal.returns-clause-ready
returns-clause-ready c = subst IsReady c.self.view_is c.self.invariant
