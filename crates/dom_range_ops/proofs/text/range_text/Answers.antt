use Rattle.dom_range_ops.proofs.Cited.{◌≡◌, Some, sym, ap, ◌∙◌, range_text_of, part_of, range_at_points}
use Rattle.dom_range_ops.proofs.DocRanges.{RangeRead, range-read, spanned-in, text-in, if-ok}
use Rattle.dom_range_ops.proofs.text.range_text.Goals.{After-law_nodes_stand_once}
use Rattle.dom_range_ops.proofs.text.range_text.Goals as goal

abbrev read : After-law_nodes_stand_once → RangeRead
read c =
    let g = c.forest-forest.ensures in
    let e = c.law_nodes_stand_once.ensures in
    range-read c.forest-forest.result.now c.args.doc.now c.live_points-points.result e.once e.only g.owned g.names g.trees c.live_points-points.ensures.range

pub text_between-requires : goal.text_between-requires
text_between-requires c = spanned-in (read (goal.at.text_between-requires c).After-law_nodes_stand_once)

pub returns : goal.returns
returns c =
    let here = c.live_points-points.ensures in
    let own = range_at_points c.args.doc.now.names c.live_points-points.result in
    if-ok c.text_between.result
    (λ text is r there.
    let both : Some own ≡ Some r = sym here.there ∙ there in
    let same : own ≡ r = cc in
    is ∙ text-in (read (goal.at.returns c).After-law_nodes_stand_once) ∙ ap (λ q. range_text_of (part_of c.args.doc.now.world q).trees own) here.owner
    ∙ ap (range_text_of (part_of c.args.doc.now.world c.args.owner).trees) same)
    c.text_between.ensures
