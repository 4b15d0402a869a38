use Rattle.dom_traversal.proofs.Cited.{sym, iterator_rest, above-itself, name_at, no_first}
use Rattle.dom_traversal.proofs.Rest.{iterator-rest, walker-rest, walker-stays, walker-end}
use Rattle.dom_traversal.proofs.laws.law_rest.Goals as goal

pub returns-clause-iterator : goal.returns-clause-iterator
returns-clause-iterator c = iterator-rest c.args.forest.now c.law_nodes_stand_once.ensures.once c.law_nodes_stand_once.ensures.only

pub returns-clause-iterator_end : goal.returns-clause-iterator_end
returns-clause-iterator_end c = λ i e. no_first (iterator_rest c.args.forest.now i) (sym e)

pub returns-clause-walker : goal.returns-clause-walker
returns-clause-walker c = walker-rest c.args.forest.now c.law_nodes_stand_once.ensures.once c.law_nodes_stand_once.ensures.only

pub returns-clause-walker_stays : goal.returns-clause-walker_stays
returns-clause-walker_stays c = walker-stays c.args.forest.now c.law_nodes_stand_once.ensures.once c.law_nodes_stand_once.ensures.only

pub returns-clause-walker_end : goal.returns-clause-walker_end
returns-clause-walker_end c = walker-end c.args.forest.now c.law_nodes_stand_once.ensures.once c.law_nodes_stand_once.ensures.only

pub returns-clause-itself : goal.returns-clause-itself
returns-clause-itself c = λ k node.
    above-itself c.args.forest.now.trees (name_at c.args.forest.now.names k) (c.law_nodes_stand_once.ensures.once k node)
