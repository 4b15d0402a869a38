use Rattle.dom_base.proofs.Std.{ap, sym, ◌∙◌}
use Rattle.dom_tree.proofs.Kept.{shows_node}
use Rattle.dom_tree.proofs.forest.Forest.kind.Goals as goal

pub returns : goal.returns
returns c = c.kind.ensures ∙ ap (λ n. n.kind) (sym (shows_node c.self.view_is c.self.invariant.kept c.args.key _ c.requires c.payload.ensures.value))
