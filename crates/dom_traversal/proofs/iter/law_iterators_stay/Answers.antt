use Rattle.dom_traversal.proofs.Cited.{Has-forest, IsWithin-key, name_at, stays}
use Rattle.dom_traversal.proofs.iter.law_iterators_stay.Goals as goal

pub returns : goal.returns
returns c = λ i node at_node placed left.
    let f = c.args.forest.now in
    record {
      root = placed.root;
      reference = record {
        node = placed.reference.node;
        within = stays (name_at f.names node)
            (Has-forest f c.law_nodes_stand_once.ensures.once node at_node)
            (IsWithin-key f c.law_nodes_stand_once.ensures.once c.law_nodes_stand_once.ensures.only i.root i.reference placed.reference) left;
      };
    }
