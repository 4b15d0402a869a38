use Rattle.dom_base.proofs.Std.{ap, sym, ◌∙◌}
use Rattle.dom_tree.proofs.Steps.{node_here}
use Rattle.dom_tree.proofs.forest.node_at.NodeAt.text.Goals as goal

pub returns : goal.returns
returns c = rw (← c.self.view_is) (c.text.ensures ∙ ap (λ n. n.text) (sym (node_here c.self.invariant c.payload.ensures)))
