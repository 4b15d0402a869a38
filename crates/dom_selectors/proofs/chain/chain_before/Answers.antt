-- One element after another is tried.
use Rattle.dom_selectors.proofs.Cited.{ap, sym, ◌∙◌, list_any, option_map, complex_matches, name_at, complex_from}
use Rattle.dom_selectors.proofs.Earlier.{elements_upto, earlier_step, earlier_less, earlier_passed}
use Rattle.dom_selectors.proofs.Searches.{chain-before}
use Rattle.dom_selectors.proofs.chain.chain_before.Goals as goal

pub loop-at-init : goal.loop-at-init
loop-at-init c =
    let f = c.args.forest.now in
    let step = earlier_step f c.law_nodes_stand_once.ensures.once c.law_nodes_stand_once.ensures.only c.args.key c.element_beside-at.result c.requires
    c.element_beside-at.ensures.value in
    record {
      node = c.element_beside-at.ensures.node;
      above = step.1;
      left = ap (list_any (complex_matches f.trees (complex_from c.args.first.now c.args.links.now))) (sym step.0);
    }

pub loop-at-smaller : goal.loop-at-smaller
loop-at-smaller c =
    let e = c.law_nodes_stand_once.ensures in
    earlier_less c.args.forest.now c.in-Some.before c.loop-at.at c.element_beside-at-in-Some.result c.in-Some.is
    (earlier_step c.args.forest.now e.once e.only c.in-Some.before c.element_beside-at-in-Some.result
    (c.loop-at.invariant.node c.in-Some.before c.in-Some.is) c.element_beside-at-in-Some.ensures.value).0

pub loop-at-preserved : goal.loop-at-preserved
loop-at-preserved c =
    let f = c.args.forest.now in
    let node = c.loop-at.invariant.node c.in-Some.before c.in-Some.is in
    let step = earlier_step f c.law_nodes_stand_once.ensures.once c.law_nodes_stand_once.ensures.only c.in-Some.before c.element_beside-at-in-Some.result
    node c.element_beside-at-in-Some.ensures.value in
    record {
      node = c.element_beside-at-in-Some.ensures.node;
      above = λ j e. step.1 j e ∙ c.loop-at.invariant.above c.in-Some.before c.in-Some.is;
      left = earlier_passed f (complex_matches f.trees (complex_from c.args.first.now c.args.links.now))
          c.element_beside-at-in-Some.result c.in-Some.is c.in_default-chain_from.ensures.ends step.0 ∙ c.loop-at.invariant.left;
    }

pub returns-in-Some-chain_from-clause-ends : goal.returns-in-Some-chain_from-clause-ends
returns-in-Some-chain_from-clause-ends c =
    let f = c.args.forest.now in
    let whole = complex_from c.args.first.now c.args.links.now in
    chain-before (name_at f.names c.args.key)
    (c.loop-at.invariant.above c.in-Some.before c.in-Some.is)
    (sym (ap (λ o. list_any (complex_matches f.trees whole) (elements_upto f.trees (option_map (name_at f.names) o))) c.in-Some.is) ∙ c.loop-at.invariant.left)
    c.in-Some-chain_from.ensures.ends
