use Rattle.dom_model.proofs.Model.{previous_sibling}
use Rattle.node_arena.specs.Nodes.{prev_of}
use Rattle.dom_tree.proofs.Reading.{prev_in-at}
use Rattle.dom_tree.proofs.Kept.{shows, shows_sibling}
use Rattle.dom_tree.proofs.forest.Forest.prev.Goals as goal

pub returns-clause-value : goal.returns-clause-value
returns-clause-value c = shows c.self.view_is c.self.invariant.kept {read = previous_sibling} {key_read = prev_of} (record { agree = prev_in-at }) c.args.key
    c.requires c.prev.ensures.value

pub returns-clause-sibling : goal.returns-clause-sibling
returns-clause-sibling c k e = shows_sibling c.self.view_is c.self.invariant.kept c.args.key k c.requires (c.prev.ensures.node k e) (c.prev.ensures.sibling k e)
