use Rattle.dom_traversal.proofs.Cited.{refl}
use Rattle.dom_tree.proofs.Inside.{top-stands}
use Rattle.dom_traversal.proofs.references.is_apart.Goals as goal

pub following-walked-requires-clause-within : goal.following-walked-requires-clause-within
following-walked-requires-clause-within c =
    let e = c.law_nodes_stand_once.ensures in
    (top-stands c.args.forest.now c.args.top e.once e.only c.requires.top_is_node c.args.top refl).within
