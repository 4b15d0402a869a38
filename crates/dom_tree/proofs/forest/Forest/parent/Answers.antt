use Rattle.dom_base.proofs.Std.{sym, ◌∙◌, false_from_ne_true}
use Rattle.dom_tree.proofs.Kept.{shows_parent, within_names}
use Rattle.dom_tree.proofs.Walks.{shows_above}
use Rattle.dom_tree.proofs.forest.Forest.parent.Goals as goal

pub returns-clause-value : goal.returns-clause-value
returns-clause-value c = shows_parent c.self.view_is c.self.invariant.kept c.args.key c.requires c.parent.ensures.value

pub returns-clause-above : goal.returns-clause-above
returns-clause-above c = λ p e.
    sym (shows_above c.self.view_is c.self.invariant.kept c.args.key p c.requires
    (within_names c.self.view_is c.self.invariant.kept p (c.parent.ensures.node p e)))
    ∙ false_from_ne_true _ (c.parent.ensures.above p e)
