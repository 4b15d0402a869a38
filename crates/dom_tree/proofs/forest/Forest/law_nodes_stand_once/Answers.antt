use Rattle.dom_tree.proofs.Within.{shows_below}
use Rattle.dom_tree.proofs.Ordered.{shows_order}
use Rattle.dom_tree.proofs.Once.{shows_distinct, shows_once, shows_only, shows_there}
use Rattle.dom_tree.proofs.forest.Forest.law_nodes_stand_once.Goals as goal

pub returns : goal.returns
returns c = record {
  distinct = shows_distinct c.self.view_is c.self.invariant.kept;
  once = shows_once c.self.view_is c.self.invariant.kept;
  only = shows_only c.self.view_is c.self.invariant.kept;
  present = shows_there c.self.view_is c.self.invariant.kept;
  below = shows_below c.self.view_is c.self.invariant.kept;
  order = shows_order c.self.view_is c.self.invariant.kept;
}
