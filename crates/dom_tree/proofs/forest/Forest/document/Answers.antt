use Rattle.dom_base.proofs.Std.{ap, sym, ◌∙◌, option_map}
use Rattle.dom_tree.specs.Definitions.{name_at}
use Rattle.dom_tree.proofs.Kept.{shows_node}
use Rattle.dom_tree.proofs.forest.Forest.document.Goals as goal

pub returns-clause-value : goal.returns-clause-value
returns-clause-value c = ap (option_map (name_at c.args.self.now.names)) c.document.ensures ∙
    ap (λ n. n.document) (sym (shows_node c.self.view_is c.self.invariant.kept c.args.key _ c.requires c.payload.ensures.value))
