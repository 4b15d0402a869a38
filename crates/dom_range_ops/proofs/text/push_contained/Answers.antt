use Rattle.dom_range_ops.proofs.Cited.{◌<◌, ◌++◌, length, map, flat_map, sym, ap, subst, ◌∙◌, AllByRecursion, name_at, range_at_points, tree_text}
use Rattle.dom_range_ops.proofs.OutermostTrees.{text-outermost}
use Rattle.dom_range_ops.proofs.PieceLaws.{is-range}
use Rattle.dom_range_ops.proofs.text.push_contained.Goals as goal

pub loop-top-init : goal.loop-top-init
loop-top-init c =
    let f = c.args.forest.now in
    let e = c.law_nodes_stand_once.ensures in
    let r = range_at_points f.names c.args.points.now in
    let found = c.in_ok-found.ensures in
    record {
      left = ap (λ xs. c.args.text.now.items ++ xs) (ap (λ ks. flat_map (tree_text f.trees r) (map (name_at f.names) ks)) c.as_slice-tops.ensures.value
          ∙ ap (flat_map (tree_text f.trees r)) found.value ∙ sym (text-outermost f.trees r (is-range f e.once e.only c.args.points.now c.requires)));
      nodes = subst (AllByRecursion (λ k. k < length f.names)) (sym c.as_slice-tops.ensures.value) found.nodes;
    }
