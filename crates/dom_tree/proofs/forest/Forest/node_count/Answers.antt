use Rattle.dom_base.proofs.Std.{ap, ◌∙◌}
use Rattle.dom_tree.specs.Definitions.{NamedTrees, count_of}
use Rattle.dom_tree.proofs.forest.Forest.node_count.Goals as goal

pub returns : goal.returns
returns c =
    c.count.ensures
    ∙ c.self.invariant.kept.counted c.args.owner
    ∙ ap (λ (f : NamedTrees). count_of c.args.owner f.names) c.self.view_is
