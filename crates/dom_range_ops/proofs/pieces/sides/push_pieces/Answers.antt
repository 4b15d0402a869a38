use Rattle.dom_range_ops.proofs.Cited.{true, false, map, sym, subst, filter, on_ok_weaker, common_ancestor, is_contained, children_of, name_at, Adds}
use Rattle.dom_range_ops.proofs.Cited.{whole_item, side_items, range_at_points}
use Rattle.dom_range_ops.proofs.PieceLaws.{items-between}
use Rattle.dom_range_ops.proofs.PieceRuns.{adds-on}
use Rattle.dom_range_ops.proofs.pieces.sides.push_pieces.Goals as goal

pub returns : goal.returns
returns c =
    let f = c.args.forest.now in
    let e = c.law_nodes_stand_once.ensures in
    let r = range_at_points f.names c.args.points.now in
    let all = items-between f e.once e.only c.args.points.now c.requires.spanned _ _ c.requires.paths in
    on_ok_weaker c.push_side-2.result
    (λ h. subst (Adds f.names c.args.pieces.now.items c.push_side-2.new.pieces.items) (sym all)
    (adds-on f.names (side_items f.trees r.start true (map (name_at f.names) c.args.start_path.now)) _ c.in_ok-push_side.ensures
    (adds-on f.names (map whole_item (filter (is_contained f.trees r) (children_of f.trees (common_ancestor f.trees r))))
    (side_items f.trees r.end false (map (name_at f.names) c.args.end_path.now)) c.in_ok-push_between.ensures h)))
    c.push_side-2.ensures
