use Rattle.dom_base.proofs.Std.{sym, ◌∙◌}
use Rattle.dom_tree.proofs.Kept.{within_names}
use Rattle.dom_tree.proofs.Walks.{shows_above}
use Rattle.dom_tree.proofs.forest.Forest.is_known_above.Goals as goal

pub returns-clause-node : goal.returns-clause-node
returns-clause-node c told = within_names c.self.view_is c.self.invariant.kept c.args.above (c.is_known_above.ensures.node told)

pub returns-clause-above : goal.returns-clause-above
returns-clause-above c told =
    sym (shows_above c.self.view_is c.self.invariant.kept c.args.above c.args.key (returns-clause-node c told) c.requires)
    ∙ c.is_known_above.ensures.above told
