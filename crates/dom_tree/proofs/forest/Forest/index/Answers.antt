use Rattle.dom_base.proofs.Std.{◌∙◌}
use Rattle.dom_tree.proofs.Walks.{place-fits, shows_index}
use Rattle.dom_tree.proofs.forest.Forest.index.Goals as goal

pub unreachable-requires : goal.unreachable-requires
unreachable-requires c =
    place-fits c.self.inside.arena.children c.self.invariant.kept.forest (rw c.self.invariant.kept.paired at c.self.invariant.kept.few) c.args.key
    (c.index_below.ensures.none c.in_default.is)

pub returns : goal.returns
returns c =
    (c.index_below.ensures.below c.in-Some.index c.in-Some.is).0 ∙ shows_index c.self.view_is c.self.invariant.kept c.args.key c.requires
