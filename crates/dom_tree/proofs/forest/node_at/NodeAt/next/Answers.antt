use Rattle.dom_tree.proofs.Steps.{next_here}
use Rattle.dom_tree.proofs.forest.node_at.NodeAt.next.Goals as goal

pub returns-in-Some-clause-value : goal.returns-in-Some-clause-value
returns-in-Some-clause-value c = next_here c.self.invariant c.self.view_is c.in-Some.ensures.value

pub returns-in-None-clause-value : goal.returns-in-None-clause-value
returns-in-None-clause-value c = next_here c.self.invariant c.self.view_is c.in-None.ensures.value
