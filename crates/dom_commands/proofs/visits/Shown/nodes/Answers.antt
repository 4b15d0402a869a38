-- The item where the nodes were asked for last is one of the path.
use Rattle.dom_commands.proofs.visits.Shown.nodes.Goals as goal

pub share_tree-requires-clause-other : goal.share_tree-requires-clause-other
share_tree-requires-clause-other c = (c.requires.shown c.in-Some.last c.in-Some.is).0
