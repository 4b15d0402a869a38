-- Nodes that are no elements are passed.
use Rattle.dom_selectors.proofs.Cited.{ap, sym, ◌∙◌}
use Rattle.dom_selectors.proofs.Passing.{nearest_from, nearest-first, nearest-more, nearest-less, nearest-here, nearest-none}
use Rattle.dom_selectors.proofs.siblings.element_beside.Goals as goal

pub loop-at-init : goal.loop-at-init
loop-at-init c =
    let e = c.law_nodes_stand_once.ensures in
    record {
      node = c.sibling-at.ensures.node;
      nearest = nearest-first c.args.forest.now e.once e.only c.sibling-at.result c.requires c.args.side c.sibling-at.ensures.value;
    }

pub loop-at-smaller : goal.loop-at-smaller
loop-at-smaller c =
    let e = c.law_nodes_stand_once.ensures in
    nearest-less c.args.forest.now e.once e.only c.sibling-at-in-Some.result (c.loop-at.invariant.node c.in-Some.beside c.in-Some.is) c.in-Some.is c.args.side
    c.sibling-at-in-Some.ensures.value

pub loop-at-preserved : goal.loop-at-preserved
loop-at-preserved c =
    let e = c.law_nodes_stand_once.ensures in
    record {
      node = c.sibling-at-in-Some.ensures.node;
      nearest =
          nearest-more c.args.forest.now e.once e.only c.sibling-at-in-Some.result (c.loop-at.invariant.node c.in-Some.beside c.in-Some.is)
          c.in-Some.is c.args.side c.sibling-at-in-Some.ensures.value (sym c.if-is_element.ensures) ∙ c.loop-at.invariant.nearest;
    }

pub returns-then-is_element-clause-value : goal.returns-then-is_element-clause-value
returns-then-is_element-clause-value c =
    nearest-here c.args.forest.now c.in-Some.is c.args.side (sym c.if-is_element.ensures) ∙ c.loop-at.invariant.nearest

pub returns-clause-value : goal.returns-clause-value
returns-clause-value c =
    sym (nearest-none c.args.forest.now c.args.side)
    ∙ (ap (nearest_from c.args.forest.now c.args.side) (sym c.in_default.is) ∙ c.loop-at.invariant.nearest)
