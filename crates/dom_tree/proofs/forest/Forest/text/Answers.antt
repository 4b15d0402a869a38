use Rattle.dom_base.proofs.Std.{ap, sym, ◌∙◌}
use Rattle.dom_tree.proofs.Kept.{shows_node}
use Rattle.dom_tree.proofs.forest.Forest.text.Goals as goal

pub returns : goal.returns
returns c = c.text.ensures ∙ ap (λ n. n.text) (sym (shows_node c.self.view_is c.self.invariant.kept c.args.key _ c.requires c.payload.ensures.value))
