use Rattle.dom_ranges.proofs.Cited.{◌+◌, ◌≤◌, inl, inr, length, length-set, set, arith, at, AtMost, end_in}
use Rattle.dom_ranges.proofs.Gathering.{HasChanged-set}
use Rattle.dom_ranges.proofs.Placing.{placed-earlier, placed-later, group-set, behind-set, ahead-set}
use Rattle.dom_ranges.proofs.ends.bring.Goals as goal

pub returns-then-to-place-clause-brought : goal.returns-then-to-place-clause-brought
returns-then-to-place-clause-brought c =
    HasChanged-set c.find-place.result c.find-place.ensures.within c.find-place.ensures.found
    c.turn.ensures.permutation

pub returns-then-to-place-clause-sorted : goal.returns-then-to-place-clause-sorted
returns-then-to-place-clause-sorted c =
    let es = c.args.ends.now in
    let place = c.find-place.result in
    let within = c.find-place.ensures.within in
    let y = end_in c.args.end.slot c.args.end.is_end (at c.args.node c.args.offset) in
    let size = length-set es place y in
    placed-earlier AtMost (set es place y) c.turn.new.ends place (place + 1) (group-set es place y within c.requires.sorted) c.turn.ensures.len
    c.place_behind-to.result c.if-to-place.true
    (λ i l. behind-set es place y within c.requires.sorted i (inl (omega (arith, l, c.if-to-place.true))) (λ d. c.place_behind-to.ensures.less i d l))
    (λ j p l. elim p [
      | inl q ↦ ahead-set es place y within c.requires.sorted j (inl q.1) (λ d. c.place_behind-to.ensures.more j d q.0 (omega (arith, l, size)))
      | inr q ↦ ahead-set es place y within c.requires.sorted j (inr q)
          (λ d. c.place_behind-to.ensures.more j d (omega (arith, q, c.if-to-place.true)) (omega (arith, l, size)))
    ])
    c.turn.ensures.turned

pub returns-else-to-place-clause-brought : goal.returns-else-to-place-clause-brought
returns-else-to-place-clause-brought c =
    HasChanged-set c.find-place.result c.find-place.ensures.within c.find-place.ensures.found
    c.turn-else-to-place.ensures.permutation

pub returns-else-to-place-clause-sorted : goal.returns-else-to-place-clause-sorted
returns-else-to-place-clause-sorted c =
    let es = c.args.ends.now in
    let place = c.find-place.result in
    let to = c.place_behind-to.result in
    let within = c.find-place.ensures.within in
    let y = end_in c.args.end.slot c.args.end.is_end (at c.args.node c.args.offset) in
    let size = length-set es place y in
    let past : place + 1 ≤ to = omega (arith, c.if-to-place.false) in
    let in_list : to ≤ length (set es place y) = omega (arith, size, c.place_behind-to.ensures.within) in
    placed-later AtMost (set es place y) c.turn-else-to-place.new.ends place (place + 1) (group-set es place y within c.requires.sorted)
    c.turn-else-to-place.ensures.len to past in_list
    (λ i p. elim p [
      | inl q ↦ behind-set es place y within c.requires.sorted i (inl q) (λ d. c.place_behind-to.ensures.less i d (omega (arith, q, past)))
      | inr q ↦ behind-set es place y within c.requires.sorted i (inr q.0) (λ d. c.place_behind-to.ensures.less i d q.1)
    ])
    (λ j l m. ahead-set es place y within c.requires.sorted j (inr (omega (arith, l, past)))
    (λ d. c.place_behind-to.ensures.more j d l (omega (arith, m, size))))
    c.turn-else-to-place.ensures.turned
