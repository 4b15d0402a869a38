use Rattle.dom_model.proofs.Model.{last_of, children_of as children_in}
use Rattle.node_arena.specs.Nodes.{children_of, last_of as last_key}
use Rattle.dom_tree.proofs.Reading.{last_in-at}
use Rattle.dom_tree.proofs.Kept.{shows, shows_child}
use Rattle.dom_tree.proofs.forest.Forest.last.Goals as goal

pub returns-clause-value : goal.returns-clause-value
returns-clause-value c = shows c.self.view_is c.self.invariant.kept {read = λ ts x. last_of (children_in ts x)}
    {key_read = λ lists x. last_key (children_of lists x)} (record { agree = last_in-at }) c.args.key c.requires c.last.ensures.value

pub returns-clause-child : goal.returns-clause-child
returns-clause-child c k e = shows_child c.self.view_is c.self.invariant.kept k (c.last.ensures.node k e) (c.last.ensures.child k e)
