-- One ancestor after another is tried.
use Rattle.dom_selectors.proofs.Cited.{ap, sym, ◌∙◌, list_any, option_map, complex_matches, name_at, Once-forest, Has-forest, complex_from}
use Rattle.dom_selectors.proofs.JoinedLaws.{from_above, above_step, above_less, above_miss}
use Rattle.dom_selectors.proofs.Searches.{segment-above}
use Rattle.dom_selectors.proofs.joined.segment_above.Goals as goal

pub loop-at-init : goal.loop-at-init
loop-at-init c =
    let f = c.args.forest.now in
    record {
      node = c.parent-at.ensures.node;
      left = ap (list_any (complex_matches f.trees (complex_from c.args.first.now c.args.links.now)))
          (sym (above_step f c.law_nodes_stand_once.ensures.once c.law_nodes_stand_once.ensures.only c.args.key c.parent-at.result
          c.parent-at.ensures.value));
    }

pub loop-at-smaller : goal.loop-at-smaller
loop-at-smaller c =
    let e = c.law_nodes_stand_once.ensures in
    above_less c.args.forest.now c.in-Some.above c.loop-at.at c.parent-at-in-Some.result c.in-Some.is
    (above_step c.args.forest.now e.once e.only c.in-Some.above c.parent-at-in-Some.result c.parent-at-in-Some.ensures.value)

pub loop-at-preserved : goal.loop-at-preserved
loop-at-preserved c =
    let f = c.args.forest.now in
    let step = above_step f c.law_nodes_stand_once.ensures.once c.law_nodes_stand_once.ensures.only c.in-Some.above c.parent-at-in-Some.result
    c.parent-at-in-Some.ensures.value in
    record {
      node = c.parent-at-in-Some.ensures.node;
      left = above_miss f (complex_matches f.trees (complex_from c.args.first.now c.args.links.now))
          c.parent-at-in-Some.result c.in-Some.is c.in_default-segment_from.ensures.ends step ∙ c.loop-at.invariant.left;
    }

pub returns-in-Some-segment_from-clause-ends : goal.returns-in-Some-segment_from-clause-ends
returns-in-Some-segment_from-clause-ends c =
    let f = c.args.forest.now in
    let whole = complex_from c.args.first.now c.args.links.now in
    segment-above (name_at f.names c.args.key)
    (Once-forest f c.law_nodes_stand_once.ensures.once c.law_nodes_stand_once.ensures.only)
    (Has-forest f c.law_nodes_stand_once.ensures.once c.in-Some.above (c.loop-at.invariant.node c.in-Some.above c.in-Some.is))
    (sym (ap (λ o. list_any (complex_matches f.trees whole) (from_above f.trees (option_map (name_at f.names) o))) c.in-Some.is) ∙ c.loop-at.invariant.left)
    c.in-Some-segment_from.ensures.ends
