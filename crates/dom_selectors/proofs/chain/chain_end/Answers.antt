-- Each link leads to the node that answers for it.
use Rattle.dom_selectors.proofs.Cited.{ap, sym, subst, ◌∙◌, arith, option_map, compound_matches, name_at, Once-forest, Has-forest, IsSearched, StopsAt}
use Rattle.dom_selectors.proofs.Cited.{complex_from, last_compound}
use Rattle.dom_selectors.proofs.JoinedLaws.{last-joined, no-links}
use Rattle.dom_selectors.proofs.Chains.{leads-same, leads-on, hits, leads-left, none_left, not_last}
use Rattle.dom_selectors.proofs.Searches.{chain-ends}
use Rattle.dom_selectors.proofs.chain.chain_end.Goals as goal

pub loop-last-init : goal.loop-last-init
loop-last-init c =
    let f = c.args.forest.now in
    record {
      node = c.requires.node;
      shorter = omega arith;
      leads = leads-same f.trees (complex_from c.args.first.now c.args.links.now) (name_at f.names c.args.key);
      matches = c.requires.matches;
    }

pub loop-last-preserved : goal.loop-last-preserved
loop-last-preserved c =
    let f = c.args.forest.now in
    let last = c.in-Some.last.now in
    let is = last-joined c.args.first.now c.loop-last.rest.now c.in-Some.left.now last c.in-Some.ensures.cases.0 in
    record {
      node = c.only_left.ensures.node c.in_ok-at.at c.in_ok-at.was;
      shorter = omega (arith, c.in-Some.ensures.cases.1, c.loop-last.invariant.shorter);
      leads = leads-on c.loop-last.invariant.leads (leads-left f.trees (name_at f.names c.loop-last.at) is c.loop-last.invariant.matches
          (Once-forest f c.law_nodes_stand_once.ensures.once c.law_nodes_stand_once.ensures.only)
          (Has-forest f c.law_nodes_stand_once.ensures.once c.loop-last.at c.loop-last.invariant.node)
          (c.is_searched.ensures.no c.if-is_searched.false) (name_at f.names c.in_ok-at.at)
          (sym c.only_left.ensures.value ∙ ap (option_map (name_at f.names)) c.in_ok-at.was));
      matches = sym c.last_matches.ensures ∙ c.if-not-last_matches.false;
    }

pub returns-then-is_searched-clause-ends : goal.returns-then-is_searched-clause-ends
returns-then-is_searched-clause-ends c =
    let f = c.args.forest.now in
    let x = name_at f.names c.loop-last.at in
    let last = c.in-Some.last.now in
    let is = last-joined c.args.first.now c.loop-last.rest.now c.in-Some.left.now last c.in-Some.ensures.cases.0 in
    chain-ends
    (Once-forest f c.law_nodes_stand_once.ensures.once c.law_nodes_stand_once.ensures.only)
    (Has-forest f c.law_nodes_stand_once.ensures.once c.loop-last.at c.loop-last.invariant.node)
    c.loop-last.invariant.leads
    (subst (λ d. StopsAt IsSearched f.trees d x) (sym is) (c.is_searched.ensures.yes c.if-is_searched.true, hits f.trees x is c.loop-last.invariant.matches))

pub returns-in_err-at-clause-ends : goal.returns-in_err-at-clause-ends
returns-in_err-at-clause-ends c =
    let f = c.args.forest.now in
    let last = c.in-Some.last.now in
    let is = last-joined c.args.first.now c.loop-last.rest.now c.in-Some.left.now last c.in-Some.ensures.cases.0 in
    rw c.from_residual.ensures (c.loop-last.invariant.leads.same ∙ none_left f.trees (name_at f.names c.loop-last.at) is c.loop-last.invariant.matches
    (Once-forest f c.law_nodes_stand_once.ensures.once c.law_nodes_stand_once.ensures.only)
    (Has-forest f c.law_nodes_stand_once.ensures.once c.loop-last.at c.loop-last.invariant.node)
    (c.is_searched.ensures.no c.if-is_searched.false)
    (sym c.only_left.ensures.value ∙ ap (option_map (name_at f.names)) c.in_err-at.was))

pub returns-then-not-last_matches-clause-ends : goal.returns-then-not-last_matches-clause-ends
returns-then-not-last_matches-clause-ends c =
    let f = c.args.forest.now in
    let z = name_at f.names c.in_ok-at.at in
    let last = c.in-Some.last.now in
    let left = complex_from c.args.first.now c.in-Some.left.now in
    let is = last-joined c.args.first.now c.loop-last.rest.now c.in-Some.left.now last c.in-Some.ensures.cases.0 in
    let step = leads-left f.trees (name_at f.names c.loop-last.at) is c.loop-last.invariant.matches
    (Once-forest f c.law_nodes_stand_once.ensures.once c.law_nodes_stand_once.ensures.only)
    (Has-forest f c.law_nodes_stand_once.ensures.once c.loop-last.at c.loop-last.invariant.node)
    (c.is_searched.ensures.no c.if-is_searched.false) z
    (sym c.only_left.ensures.value ∙ ap (option_map (name_at f.names)) c.in_ok-at.was) in
    c.loop-last.invariant.leads.same ∙ (step.same ∙ not_last f.trees left z (sym c.last_matches.ensures ∙ c.if-not-last_matches.true))

pub returns-clause-ends : goal.returns-clause-ends
returns-clause-ends c =
    let f = c.args.forest.now in
    let x = name_at f.names c.loop-last.at in
    let is = no-links c.args.first.now c.loop-last.rest.now c.in_default.ensures.cases in
    chain-ends
    (Once-forest f c.law_nodes_stand_once.ensures.once c.law_nodes_stand_once.ensures.only)
    (Has-forest f c.law_nodes_stand_once.ensures.once c.loop-last.at c.loop-last.invariant.node)
    c.loop-last.invariant.leads
    (subst (λ d. StopsAt IsSearched f.trees d x) (sym is)
    (sym (ap (λ d. compound_matches f.trees (last_compound d) x) is) ∙ c.loop-last.invariant.matches))
