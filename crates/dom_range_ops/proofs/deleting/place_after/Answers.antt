use Rattle.dom_range_ops.proofs.Cited.{◌<◌, List, length, sym, ap, subst, ◌∙◌, NodeName, Boundary, at, name_at}
use Rattle.dom_range_ops.proofs.DocRanges.{RangeRead, range-read, spanned-in, place-in, place-there, if-ok}
use Rattle.dom_range_ops.proofs.deleting.place_after.Goals.{After-law_nodes_stand_once}
use Rattle.dom_range_ops.proofs.deleting.place_after.Goals as goal

abbrev read : After-law_nodes_stand_once → RangeRead
read c =
    let g = c.forest-forest.ensures in
    let e = c.law_nodes_stand_once.ensures in
    range-read c.forest-forest.result.now c.args.doc.now c.args.points.now e.once e.only g.owned g.names g.trees c.requires

pub new_place-requires : goal.new_place-requires
new_place-requires c = spanned-in (read c)

pub returns-clause-value : goal.returns-clause-value
returns-clause-value c =
    if-ok c.new_place.result
    (λ k is. ap (λ (ns : List NodeName). at (name_at ns k.0) k.1) (sym c.forest-forest.ensures.names)
    ∙ (is ∙ place-in (read (goal.at.returns-clause-value c).After-law_nodes_stand_once)))
    c.new_place.ensures.value

pub returns-clause-node : goal.returns-clause-node
returns-clause-node c =
    if-ok c.new_place.result (λ k is. subst (λ (ns : List NodeName). k.0 < length ns) c.forest-forest.ensures.names is) c.new_place.ensures.node

pub returns-clause-owner : goal.returns-clause-owner
returns-clause-owner c =
    if-ok c.new_place.result
    (λ k is. ap (λ (ns : List NodeName). (name_at ns k.0).owner) (sym c.forest-forest.ensures.names)
    ∙ (ap (λ (b : Boundary NodeName). b.node.owner) is ∙ place-there (read (goal.at.returns-clause-owner c).After-law_nodes_stand_once)))
    c.new_place.ensures.value
