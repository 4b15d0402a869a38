use Rattle.dom_ranges.proofs.Cited.{refl, arith, name_at, above-itself}
use Rattle.dom_ranges.proofs.Climbing.{depth-node, depth-up, depth-root, above-up, reached-up}
use Rattle.dom_ranges.proofs.order.climb.Goals as goal

pub up-init : goal.up-init
up-init c =
    let f = c.args.forest.now in
    record {
      top_is_node = c.requires.key_is_node;
      left_is_node = c.requires.gauge_is_node;
      depth = refl;
      above = above-itself f.trees (name_at f.names c.args.key) (c.law_nodes_stand_once.ensures.once c.args.key c.requires.key_is_node);
      reached = refl;
    }

pub returns-in_default-clause-depth : goal.returns-in_default-clause-depth
returns-in_default-clause-depth c =
    let here = depth-root c.args.forest.now c.law_nodes_stand_once.ensures.once c.law_nodes_stand_once.ensures.only c.up.left c.up.invariant.left_is_node
    c.in_default.ensures.value in
    omega (arith, here, c.up.invariant.depth)

pub returns-in_default-parent-clause-depth : goal.returns-in_default-parent-clause-depth
returns-in_default-parent-clause-depth c =
    let f = c.args.forest.now in
    let top = depth-root f c.law_nodes_stand_once.ensures.once c.law_nodes_stand_once.ensures.only c.up.top c.up.invariant.top_is_node
    c.in_default-parent.ensures.value in
    let left = depth-up f c.law_nodes_stand_once.ensures.once c.law_nodes_stand_once.ensures.only c.up.left c.in-Some.fewer c.up.invariant.left_is_node
    c.in-Some.ensures.value in
    let fewer = depth-node f c.law_nodes_stand_once.ensures.once c.law_nodes_stand_once.ensures.only c.in-Some.fewer
    (c.in-Some.ensures.node c.in-Some.fewer refl) in
    absurd (omega (arith, top, left, fewer, c.up.invariant.depth, c.requires.deep))

pub up-smaller : goal.up-smaller
up-smaller c =
    let up = depth-up c.args.forest.now c.law_nodes_stand_once.ensures.once c.law_nodes_stand_once.ensures.only c.up.top c.in-Some-parent.above
    c.up.invariant.top_is_node c.in-Some-parent.ensures.value in
    omega (arith, up)

pub up-preserved : goal.up-preserved
up-preserved c =
    let f = c.args.forest.now in
    let up = depth-up f c.law_nodes_stand_once.ensures.once c.law_nodes_stand_once.ensures.only c.up.top c.in-Some-parent.above c.up.invariant.top_is_node
    c.in-Some-parent.ensures.value in
    let left = depth-up f c.law_nodes_stand_once.ensures.once c.law_nodes_stand_once.ensures.only c.up.left c.in-Some.fewer c.up.invariant.left_is_node
    c.in-Some.ensures.value in
    record {
      top_is_node = c.in-Some-parent.ensures.node c.in-Some-parent.above refl;
      left_is_node = c.in-Some.ensures.node c.in-Some.fewer refl;
      depth = omega (arith, up, left, c.up.invariant.depth);
      above = above-up f c.law_nodes_stand_once.ensures.once c.law_nodes_stand_once.ensures.only c.up.top c.in-Some-parent.above c.args.key
          c.up.invariant.top_is_node c.requires.key_is_node c.in-Some-parent.ensures.value c.up.invariant.above;
      reached = reached-up f c.law_nodes_stand_once.ensures.once c.law_nodes_stand_once.ensures.only c.args.key c.up.top c.in-Some-parent.above c.up.child
          c.up.invariant.top_is_node c.in-Some-parent.ensures.value c.up.invariant.reached;
    }
