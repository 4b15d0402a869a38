use Rattle.dom_range_ops.proofs.Cited.{◌≡◌, ℕ, map, refl, sym, ap, subst, ◌∙◌, AllByRecursion, on_ok_weaker, DocState, HoldsNode, name_in, owner_in}
use Rattle.dom_range_ops.proofs.DeletionPlans.{with_cut, without_nodes, contents-cut, contents-made}
use Rattle.dom_range_ops.proofs.DocRanges.{RangeRead, range-read, spanned-in, one-in, cut-in, found-in, found-own}
use Rattle.dom_range_ops.proofs.deleting.delete_contents.Goals.{After-law_nodes_stand_once}
use Rattle.dom_range_ops.proofs.deleting.delete_contents.Goals as goal

abbrev read : After-law_nodes_stand_once → RangeRead
read c =
    let g = c.forest-forest.ensures in
    let e = c.law_nodes_stand_once.ensures in
    range-read c.forest-forest.result.now c.args.doc.now c.args.points.now e.once e.only g.owned g.names g.trees c.requires

pub part_in-at_start-requires-clause-ends : goal.part_in-at_start-requires-clause-ends
part_in-at_start-requires-clause-ends c = (spanned-in (read c)).ends

pub is_in_one_data-requires : goal.is_in_one_data-requires
is_in_one_data-requires c = (spanned-in (read (goal.at.is_in_one_data-requires c).After-law_nodes_stand_once)).ends

pub part_in-at_end-requires-clause-ends : goal.part_in-at_end-requires-clause-ends
part_in-at_end-requires-clause-ends c = (spanned-in (read (goal.at.part_in-at_end-requires-clause-ends c).After-law_nodes_stand_once)).ends

pub outermost_contained-requires : goal.outermost_contained-requires
outermost_contained-requires c = spanned-in (read (goal.at.outermost_contained-requires c).After-law_nodes_stand_once)

pub remove_each-requires-clause-nodes : goal.remove_each-requires-clause-nodes
remove_each-requires-clause-nodes c =
    let first = c.args.points.now.start.0 in
    let own = λ (d : DocState) (k : ℕ). (HoldsNode d k) × (owner_in d k ≡ owner_in d first) in
    subst (λ (d : DocState). AllByRecursion (own d) c.as_slice.result.now) (sym c.in_ok-cut.ensures)
    (subst (AllByRecursion (own c.args.doc.now)) (sym c.as_slice.ensures.value)
    (found-own (read (goal.at.remove_each-requires-clause-nodes c).After-law_nodes_stand_once) c.in_ok-found.found.items
    c.in_ok-found.ensures.nodes c.in_ok-found.ensures.value))

pub returns-then-is_in_one_data : goal.returns-then-is_in_one_data
returns-then-is_in_one_data c =
    let m = read (goal.at.returns-then-is_in_one_data c).After-law_nodes_stand_once in
    let first = c.args.points.now.start.0 in
    on_ok_weaker c.cut.result
    (λ h. h ∙ contents-cut c.args.doc.now c.args.points.now c.requires (c.laws.ensures.alone first c.requires.start) _
    (sym (one-in m) ∙ sym c.is_in_one_data.ensures ∙ c.if-is_in_one_data.true)
    (cut-in m first _ refl c.part_in-at_start.ensures))
    c.cut.ensures

pub returns : goal.returns
returns c =
    let m = read (goal.at.returns c).After-law_nodes_stand_once in
    let d = c.args.doc.now in
    let points = c.args.points.now in
    let ks = c.as_slice.result.now in
    on_ok_weaker c.cut-3.result
    (λ h. h ∙ ap (with_cut points.end.0 c.part_in-at_end.result)
    (c.in_ok-remove_each.ensures ∙ ap (without_nodes points.start.0 ks) c.in_ok-cut.ensures)
    ∙ contents-made d points c.requires (c.laws.ensures.alone points.start.0 c.requires.start) _ _ ks
    (sym (one-in m) ∙ sym c.is_in_one_data.ensures ∙ c.if-is_in_one_data.false)
    (cut-in m points.start.0 _ refl c.part_in-at_start.ensures, cut-in m points.end.0 _ c.requires.owner c.part_in-at_end.ensures)
    (ap (map (name_in d)) c.as_slice.ensures.value ∙ found-in m c.in_ok-found.found.items c.in_ok-found.ensures.value))
    c.cut-3.ensures
