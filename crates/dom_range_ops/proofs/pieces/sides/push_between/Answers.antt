use Rattle.dom_range_ops.proofs.Cited.{map, sym, ap, subst, ◌∙◌, option_map, on_ok_weaker, common_ancestor, is_contained, children_of, filter-none, name_at}
use Rattle.dom_range_ops.proofs.Cited.{Adds, whole_item, from_sibling, up_to, first_from, range_at_points}
use Rattle.dom_range_ops.proofs.PieceLaws.{run-between}
use Rattle.dom_range_ops.proofs.PieceMiddle.{none-contained}
use Rattle.dom_range_ops.proofs.PieceRuns.{adds-none}
use Rattle.dom_range_ops.proofs.pieces.sides.push_between.Goals as goal

pub returns-then-is_before : goal.returns-then-is_before
returns-then-is_before c =
    let f = c.args.forest.now in
    let r = range_at_points f.names c.args.points.now in
    let old = c.args.pieces.now.items in
    let kids = children_of f.trees (common_ancestor f.trees r) in
    subst (Adds f.names old old) (sym (ap (map whole_item)
    (filter-none (is_contained f.trees r) kids (λ z i. none-contained f.trees r (sym c.if-is_before.ensures) z)))) (adds-none f.names old)

pub returns : goal.returns
returns c =
    let f = c.args.forest.now in
    let e = c.law_nodes_stand_once.ensures in
    let r = range_at_points f.names c.args.points.now in
    let from = option_map (name_at f.names) c.first_behind-from.result in
    let run = ap (λ o. map whole_item (up_to o (from_sibling f.trees from))) c.first_from-until.ensures.value
    ∙ (ap (λ o. map whole_item (up_to (first_from f.trees r.end (map (name_at f.names) c.args.end_path.now)) (from_sibling f.trees o)))
    c.first_behind-from.ensures.value
    ∙ ap (map whole_item) (run-between f e.once e.only c.args.points.now c.requires.spanned _ _ c.requires.paths (sym c.if-is_before.ensures))) in
    on_ok_weaker c.push_siblings.result (subst (Adds f.names c.args.pieces.now.items c.push_siblings.new.pieces.items) run) c.push_siblings.ensures
