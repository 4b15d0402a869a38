use Rattle.dom_ranges.proofs.Cited.{inl, inr, ◌≤◌, length, arith, IsPermutation-trans, AtMostBut}
use Rattle.dom_ranges.proofs.Placing.{placed-earlier, placed-later, group-gathered, behind-node, ahead-node, past-node}
use Rattle.dom_ranges.proofs.ends.settle.Goals as goal

pub returns-then-before-first-clause-permutation : goal.returns-then-before-first-clause-permutation
returns-then-before-first-clause-permutation c = IsPermutation-trans _ _ _ c.gather-first.ensures.permutation c.turn.ensures.permutation

pub returns-then-before-first-clause-sorted : goal.returns-then-before-first-clause-sorted
returns-then-before-first-clause-sorted c =
    let es = c.gather-first.new.ends in
    let first = c.gather-first.result in
    let before = c.place_in-before.result in
    let gathered = c.gather-first.ensures.gathered in
    let sorted = c.gather-first.ensures.sorted in
    let within : c.args.high ≤ length c.gather-first.new.ends = omega (arith, c.gather-first.auto.ends, c.requires.within) in
    placed-earlier (AtMostBut c.args.node) es c.turn.new.ends first c.args.high
    (group-gathered es first c.args.high c.args.node c.gather-first.ensures.first.1 within gathered sorted) c.turn.ensures.len before
    (omega (arith, c.if-before-first.true))
    (λ i l. behind-node es first c.args.high c.args.node c.gather-first.ensures.first.1 within gathered sorted i
    (λ d. c.place_in-before.ensures.less i d (omega arith) l))
    (λ j p l. ahead-node es first c.args.high c.args.node c.gather-first.ensures.first.1 within gathered sorted j (elim p [
      | inl q ↦ λ d. c.place_in-before.ensures.more j d q.0 q.1
      | inr q ↦ past-node es first c.args.high c.args.node c.gather-first.ensures.first.1 within gathered sorted before j c.if-before-first.true q l
          (λ d. c.place_in-before.ensures.more before d (omega arith) c.if-before-first.true)
    ]))
    c.turn.ensures.turned

pub returns-clause-permutation : goal.returns-clause-permutation
returns-clause-permutation c = IsPermutation-trans _ _ _ c.gather-first.ensures.permutation c.turn-2.ensures.permutation

pub returns-clause-sorted : goal.returns-clause-sorted
returns-clause-sorted c =
    let es = c.gather-first.new.ends in
    let first = c.gather-first.result in
    let gathered = c.gather-first.ensures.gathered in
    let sorted = c.gather-first.ensures.sorted in
    let within : c.args.high ≤ length c.gather-first.new.ends = omega (arith, c.gather-first.auto.ends, c.requires.within) in
    placed-later (AtMostBut c.args.node) es c.turn-2.new.ends first c.args.high
    (group-gathered es first c.args.high c.args.node c.gather-first.ensures.first.1 within gathered sorted) c.turn-2.ensures.len c.place_in-behind.result
    c.place_in-behind.ensures.first (omega arith)
    (λ i p. behind-node es first c.args.high c.args.node c.gather-first.ensures.first.1 within gathered sorted i (elim p [
      | inl q ↦ λ d. c.place_in-before.ensures.less i d (omega arith) (omega (arith, q, c.if-before-first.false))
      | inr q ↦ λ d. c.place_in-behind.ensures.less i d q.0 q.1
    ]))
    (λ j l m. ahead-node es first c.args.high c.args.node c.gather-first.ensures.first.1 within gathered sorted j
    (λ d. c.place_in-behind.ensures.more j d l (omega (arith, m))))
    c.turn-2.ensures.turned
