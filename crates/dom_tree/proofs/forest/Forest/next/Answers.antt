use Rattle.dom_model.proofs.Model.{next_sibling}
use Rattle.node_arena.specs.Nodes.{next_of}
use Rattle.dom_tree.proofs.Reading.{next_in-at}
use Rattle.dom_tree.proofs.Kept.{shows, shows_sibling}
use Rattle.dom_tree.proofs.forest.Forest.next.Goals as goal

pub returns-clause-value : goal.returns-clause-value
returns-clause-value c = shows c.self.view_is c.self.invariant.kept {read = next_sibling} {key_read = next_of} (record { agree = next_in-at }) c.args.key
    c.requires c.next.ensures.value

pub returns-clause-sibling : goal.returns-clause-sibling
returns-clause-sibling c k e = shows_sibling c.self.view_is c.self.invariant.kept c.args.key k c.requires (c.next.ensures.node k e) (c.next.ensures.sibling k e)
