use Rattle.dom_range_ops.proofs.Cited.{List, map, sym, ap, subst, ◌∙◌, AllByRecursion, NodeName, item_in, items_of, IsPieceOf}
use Rattle.dom_range_ops.proofs.DocRanges.{RangeRead, range-read, spanned-in, pieces-in, if-ok}
use Rattle.dom_range_ops.proofs.extracting.pieces_in.Goals.{After-law_nodes_stand_once}
use Rattle.dom_range_ops.proofs.extracting.pieces_in.Goals as goal

abbrev read : After-law_nodes_stand_once → RangeRead
read c =
    let g = c.forest-forest.ensures in
    let e = c.law_nodes_stand_once.ensures in
    range-read c.forest-forest.result.now c.args.doc.now c.args.points.now e.once e.only g.owned g.names g.trees c.requires

pub pieces_between-requires : goal.pieces_between-requires
pieces_between-requires c = spanned-in (read c)

pub returns-clause-value : goal.returns-clause-value
returns-clause-value c =
    if-ok c.pieces_between.result
    (λ pieces are. ap (λ (ns : List NodeName). map (item_in ns) pieces.items) (sym c.forest-forest.ensures.names) ∙
    (are.value ∙ ap items_of (pieces-in (read (goal.at.returns-clause-value c).After-law_nodes_stand_once))))
    c.pieces_between.ensures

pub returns-clause-nodes : goal.returns-clause-nodes
returns-clause-nodes c =
    if-ok c.pieces_between.result
    (λ pieces are. subst (λ (ns : List NodeName). AllByRecursion (IsPieceOf ns) pieces.items) c.forest-forest.ensures.names are.nodes)
    c.pieces_between.ensures
