use Rattle.dom_base.proofs.Std.{ap, sym, ◌∙◌}
use Rattle.dom_model.proofs.Model.{kind_of}
use Rattle.dom_tree.specs.Definitions.{name_at}
use Rattle.dom_tree.proofs.Steps.{node_here}
use Rattle.dom_tree.proofs.forest.node_at.NodeAt.kind.Goals as goal

pub returns : goal.returns
returns c =
    c.kind.ensures ∙ ap (λ n. n.kind) (sym (node_here c.self.invariant c.payload.ensures))
    ∙ ap (λ s. kind_of s.whole.trees (name_at s.whole.names s.key)) c.self.view_is
