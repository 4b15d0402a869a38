use Rattle.dom_base.proofs.Std.{◌≤◌, ℕ, subst, ◌∙◌}
use Rattle.dom_tree.proofs.Walks.{shows_index}
use Rattle.dom_tree.proofs.forest.Forest.index_below.Goals as goal

pub returns-clause-below : goal.returns-clause-below
returns-clause-below c i is =
    let below = c.index_below.ensures.below i is in
    (below.0 ∙ shows_index c.self.view_is c.self.invariant.kept c.args.key c.requires, below.1)

pub returns-clause-none : goal.returns-clause-none
returns-clause-none c is =
    subst (λ (n : ℕ). c.args.limit ≤ n) (shows_index c.self.view_is c.self.invariant.kept c.args.key c.requires) (c.index_below.ensures.none is)
