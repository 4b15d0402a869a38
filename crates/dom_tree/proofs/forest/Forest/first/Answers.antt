use Rattle.dom_model.proofs.Model.{first_of, children_of as children_in}
use Rattle.node_arena.specs.Nodes.{children_of, head_of}
use Rattle.dom_tree.proofs.Reading.{first_in-at}
use Rattle.dom_tree.proofs.Kept.{shows, shows_child}
use Rattle.dom_tree.proofs.forest.Forest.first.Goals as goal

pub returns-clause-value : goal.returns-clause-value
returns-clause-value c = shows c.self.view_is c.self.invariant.kept {read = λ ts x. first_of (children_in ts x)}
    {key_read = λ lists x. head_of (children_of lists x)} (record { agree = first_in-at }) c.args.key c.requires c.first.ensures.value

pub returns-clause-child : goal.returns-clause-child
returns-clause-child c k e = shows_child c.self.view_is c.self.invariant.kept k (c.first.ensures.node k e) (c.first.ensures.child k e)
