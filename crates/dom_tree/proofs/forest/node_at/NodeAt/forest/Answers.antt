use Rattle.dom_base.proofs.Std.{ap}
use Rattle.dom_tree.proofs.forest.node_at.NodeAt.forest.Goals as goal

pub returns : goal.returns
returns c = ap (λ s. s.whole) c.self.view_is
