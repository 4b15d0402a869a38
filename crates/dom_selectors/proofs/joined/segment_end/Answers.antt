-- From the end of one chain to that of the next, left of `~`.
use Rattle.dom_selectors.proofs.Cited.{◌≡◌, refl, ap, sym, subst, ◌∙◌, arith, true≢false, joined, later, name_at, Once-forest, Later}
use Rattle.dom_selectors.proofs.Cited.{IsDescendant, IsSearched, StopsAt, combinator_view, complex_from}
use Rattle.dom_selectors.specs.declared.selector.Combinator.{Combinator}
use Rattle.dom_selectors.proofs.JoinedLaws.{last-joined, no-links}
use Rattle.dom_selectors.proofs.Searches.{comes-first, comes-before, none-before, stops-white, segment-ends}
use Rattle.dom_selectors.proofs.joined.segment_end.Goals.{in-Later, in_default-matches}
use Rattle.dom_selectors.proofs.joined.segment_end.Goals as goal

-- `~` alone is seen as it
no_later : (h : Combinator) → (h ≡ Later → ⊥) → combinator_view h ≡ later → ⊥
no_later Later other e = other refl
no_later h other e = cc

pub loop-last-init : goal.loop-last-init
loop-last-init c =
    let f = c.args.forest.now in
    let end = c.in-Some.end in
    record {
      node = c.in-Some.ensures.node;
      shorter = c.in-Some.ensures.shorter;
      comes = comes-first f.trees (complex_from c.args.first.now c.args.links.now) (complex_from c.args.first.now end.links.now)
          (name_at f.names c.args.key) (name_at f.names end.key) c.in-Some.ensures.ends;
    }

pub loop-last-preserved : goal.loop-last-preserved
loop-last-preserved c =
    let f = c.args.forest.now in
    let end = c.loop-last.end in
    let last = c.in-Some-split_last.last.now in
    let left = complex_from c.args.first.now c.in-Some-split_last.left.now in
    let next = c.in-Some-chain_before.next in
    let its_later : last.combinator ≡ Later = elim c.match-matches.branch [
      | in-Later w ↦ w.in-Later.is
      | in_default-matches w ↦ absurd (true≢false (sym c.if-not-matches.false ∙ w.matches-is))
    ] in
    let is = last-joined c.args.first.now end.links.now c.in-Some-split_last.left.now last c.in-Some-split_last.ensures.cases.0 in
    record {
      node = c.in-Some-chain_before.ensures.node;
      shorter = omega (arith, c.in-Some-split_last.ensures.cases.1, c.in-Some-chain_before.ensures.shorter);
      comes = comes-before c.loop-last.invariant.comes last.compound (is
          ∙ ap (λ h. joined left (combinator_view h) last.compound) its_later) (complex_from c.args.first.now next.links.now)
          (name_at f.names next.key) (Once-forest f c.law_nodes_stand_once.ensures.once c.law_nodes_stand_once.ensures.only)
          c.in-Some-chain_before.ensures.ends;
    }

pub returns-then-not-matches-clause-ends : goal.returns-then-not-matches-clause-ends
returns-then-not-matches-clause-ends c =
    let f = c.args.forest.now in
    let end = c.loop-last.end in
    let last = c.in-Some-split_last.last.now in
    let z = name_at f.names end.key in
    let other : last.combinator ≡ Later → ⊥ = elim c.match-matches.branch [
      | in-Later w ↦ λ e. true≢false (sym w.matches-is ∙ c.if-not-matches.true)
      | in_default-matches w ↦ w.in_default-matches.not-Later
    ] in
    let is = last-joined c.args.first.now end.links.now c.in-Some-split_last.left.now last c.in-Some-split_last.ensures.cases.0 in
    segment-ends c.loop-last.invariant.comes
    (stops-white f.trees
    z is (no_later last.combinator other) c.loop-last.invariant.comes.stops)

pub returns-in_default-chain_before-clause-ends : goal.returns-in_default-chain_before-clause-ends
returns-in_default-chain_before-clause-ends c =
    let end = c.loop-last.end in
    let last = c.in-Some-split_last.last.now in
    let left = complex_from c.args.first.now c.in-Some-split_last.left.now in
    let its_later : last.combinator ≡ Later = elim c.match-matches.branch [
      | in-Later w ↦ w.in-Later.is
      | in_default-matches w ↦ absurd (true≢false (sym c.if-not-matches.false ∙ w.matches-is))
    ] in
    let is = last-joined c.args.first.now end.links.now c.in-Some-split_last.left.now last c.in-Some-split_last.ensures.cases.0 in
    none-before c.loop-last.invariant.comes last.compound (is
    ∙ ap (λ h. joined left (combinator_view h) last.compound) its_later) c.in_default-chain_before.ensures.ends

pub returns-clause-ends : goal.returns-clause-ends
returns-clause-ends c =
    let f = c.args.forest.now in
    let end = c.loop-last.end in
    let z = name_at f.names end.key in
    let is = no-links c.args.first.now end.links.now c.in_default-split_last.ensures.cases in
    segment-ends c.loop-last.invariant.comes
    (subst (λ d. StopsAt IsDescendant f.trees d z) (sym is) (subst (λ d. StopsAt IsSearched f.trees d z) is c.loop-last.invariant.comes.stops))
