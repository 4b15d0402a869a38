use Rattle.dom_base.proofs.Std.{ap, ◌∙◌}
use Rattle.dom_tree.proofs.Steps.{key_here}
use Rattle.dom_tree.proofs.forest.node_at.NodeAt.key.Goals as goal

pub returns : goal.returns
returns c = record { value = c.key.ensures.value ∙ ap (λ s. s.key) c.self.view_is; node = rw (← c.self.view_is) (key_here c.self.invariant) }
