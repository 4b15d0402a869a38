use Rattle.dom_ranges.proofs.Cited.{inl, inr, refl, arith, name_at, above-itself}
use Rattle.dom_ranges.proofs.Climbing.{depth-up, depth-root, above-up}
use Rattle.dom_ranges.proofs.order.climb_together.Goals as goal

pub up-init : goal.up-init
up-init c =
    let f = c.args.forest.now in
    let once = c.law_nodes_stand_once.ensures.once in
    record {
      first_is_node = c.requires.first_is_node;
      second_is_node = c.requires.second_is_node;
      first_climbed = above-itself f.trees (name_at f.names c.args.first) (once c.args.first c.requires.first_is_node);
      second_climbed = above-itself f.trees (name_at f.names c.args.second) (once c.args.second c.requires.second_is_node);
      difference = omega arith;
      first_not_deeper = omega arith;
      second_not_deeper = omega arith;
    }

pub returns-in_default-clause-root : goal.returns-in_default-clause-root
returns-in_default-clause-root c = inl (depth-root c.args.forest.now c.law_nodes_stand_once.ensures.once c.law_nodes_stand_once.ensures.only c.up.first_at
    c.up.invariant.first_is_node c.in_default.ensures.value)

pub returns-in_default-parent-clause-root : goal.returns-in_default-parent-clause-root
returns-in_default-parent-clause-root c =
    inr (depth-root c.args.forest.now c.law_nodes_stand_once.ensures.once c.law_nodes_stand_once.ensures.only c.up.second_at c.up.invariant.second_is_node
    c.in_default-parent.ensures.value)

pub up-smaller : goal.up-smaller
up-smaller c =
    let up = depth-up c.args.forest.now c.law_nodes_stand_once.ensures.once c.law_nodes_stand_once.ensures.only c.up.first_at c.in-Some.first_above
    c.up.invariant.first_is_node c.in-Some.ensures.value in
    omega (arith, up)

pub up-preserved : goal.up-preserved
up-preserved c =
    let f = c.args.forest.now in
    let up = depth-up f c.law_nodes_stand_once.ensures.once c.law_nodes_stand_once.ensures.only c.up.first_at c.in-Some.first_above c.up.invariant.first_is_node
    c.in-Some.ensures.value in
    let over = depth-up f c.law_nodes_stand_once.ensures.once c.law_nodes_stand_once.ensures.only c.up.second_at c.in-Some-parent.second_above
    c.up.invariant.second_is_node c.in-Some-parent.ensures.value in
    record {
      first_is_node = c.in-Some.ensures.node c.in-Some.first_above refl;
      second_is_node = c.in-Some-parent.ensures.node c.in-Some-parent.second_above refl;
      first_climbed = above-up f c.law_nodes_stand_once.ensures.once c.law_nodes_stand_once.ensures.only c.up.first_at c.in-Some.first_above c.args.first
          c.up.invariant.first_is_node c.requires.first_is_node c.in-Some.ensures.value c.up.invariant.first_climbed;
      second_climbed = above-up f c.law_nodes_stand_once.ensures.once c.law_nodes_stand_once.ensures.only c.up.second_at
          c.in-Some-parent.second_above c.args.second
          c.up.invariant.second_is_node c.requires.second_is_node c.in-Some-parent.ensures.value c.up.invariant.second_climbed;
      difference = omega (arith, up, over, c.up.invariant.difference);
      first_not_deeper = omega (arith, up, c.up.invariant.first_not_deeper);
      second_not_deeper = omega (arith, over, c.up.invariant.second_not_deeper);
    }
