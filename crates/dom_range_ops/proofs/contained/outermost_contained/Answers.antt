use Rattle.dom_range_ops.proofs.Cited.{◌<◌, ◌&&◌, false, not, length, map, sym, ap, subst, ◌∙◌, AllByRecursion, option_map_or, is_contained, nodes, names_of}
use Rattle.dom_range_ops.proofs.Cited.{parent_of, filter-none, name_at, item_in, wholes, IsPieceIn, range_at_points}
use Rattle.dom_range_ops.proofs.DocRanges.{if-ok}
use Rattle.dom_range_ops.proofs.OutermostPieces.{keys-named, keys-in, outermost-found}
use Rattle.dom_range_ops.proofs.PieceMiddle.{none-contained}
use Rattle.dom_range_ops.proofs.contained.outermost_contained.Goals as goal

pub returns-then-is_before-clause-value : goal.returns-then-is_before-clause-value
returns-then-is_before-clause-value c =
    let f = c.args.forest.now in
    let r = range_at_points f.names c.args.points.now in
    ap (map (name_at f.names)) c.new.ensures.items
    ∙ sym (filter-none _ (names_of (nodes f.trees))
    (λ y i. ap (λ b. b && not (option_map_or (is_contained f.trees r) (parent_of f.trees y) false)) (none-contained f.trees r (sym c.if-is_before.ensures) y)))

pub returns-clause-value : goal.returns-clause-value
returns-clause-value c =
    let f = c.args.forest.now in
    let e = c.law_nodes_stand_once.ensures in
    if-ok c.whole_nodes.result
    (λ keys is. ap (map (name_at f.names)) is ∙ keys-named f.names c.as_slice.result.now
    ∙ ap (λ ps. wholes (map (item_in f.names) ps)) c.as_slice.ensures.value ∙ ap wholes c.in_ok-pieces.ensures.items.value
    ∙ outermost-found f (e.once, e.only) c.args.points.now c.requires c.in_ok-pieces.ensures.paths (sym c.if-is_before.ensures))
    c.whole_nodes.ensures

pub returns-clause-nodes : goal.returns-clause-nodes
returns-clause-nodes c =
    let f = c.args.forest.now in
    if-ok c.whole_nodes.result
    (λ keys is. subst (AllByRecursion (λ k. k < length f.names)) (sym is) (keys-in (length f.names) c.as_slice.result.now
    (subst (AllByRecursion (IsPieceIn (length f.names))) (sym c.as_slice.ensures.value) c.in_ok-pieces.ensures.items.nodes)))
    c.whole_nodes.ensures
