use Rattle.dom_ranges.proofs.Cited.{◌≡◌, ℕ, ◌+◌, ◌<◌, ◌≤◌, false, true, cond, List, [], ◌∷◌, ◌++◌, length, get_or, inl, inr, refl, sym, subst, ◌∙◌, ap}
use Rattle.dom_ranges.proofs.Cited.{append_assoc, length-append, arith, at, AtMost, end_in, IsSortedByPoint, IsTurned, LessThan, point_of, RangeEnd}
use Rattle.dom_ranges.proofs.Gathering.{written-back}
use Rattle.dom_ranges.proofs.Placing.{placed-earlier, group-pushed, behind-pushed, ahead-pushed}
use Rattle.dom_ranges.proofs.ends.list_range.Goals as goal

pub returns-clause-sorted : goal.returns-clause-sorted
returns-clause-sorted c =
    let es = c.args.ends.now.items in
    let a = end_in c.args.slot false (at c.args.node 0) in
    let b = end_in c.args.slot true (at c.args.node 0) in
    let to = c.place_behind-to.result in
    let one : c.push.new.self.items ≡ es ++ a ∷ [] = c.push.ensures.items ∙ ap (λ t. cond t (es ++ a ∷ []) es) (c.push.ensures.succeeds (omega arith)) in
    let two : c.push-2.new.self.items ≡ es ++ a ∷ b ∷ [] =
    c.push-2.ensures.items ∙ (ap (λ t. cond t (c.push.new.self.items ++ b ∷ []) c.push.new.self.items) (c.push-2.ensures.succeeds (omega arith)) ∙
    (ap (λ xs. xs ++ b ∷ []) one ∙ append_assoc es (a ∷ []) (b ∷ []))) in
    let held : c.as_mut_slice.result.now ≡ es ++ a ∷ b ∷ [] = c.as_mut_slice.ensures.value ∙ two in
    let first : c.len-first.result ≡ length es = omega (arith, c.len-first.ensures, c.args.ends.now.ok.0) in
    let behind : c.len-behind.result ≡ length es + 2 =
    omega (arith, c.len-behind.ensures, c.push-2.new.self.ok.0, ap (length {A = RangeEnd}) two, length-append es (a ∷ b ∷ [])) in
    let turned : IsTurned (es ++ a ∷ b ∷ []) c.turn.new.ends to (length es) (length es + 2) =
    subst (λ (xs : List RangeEnd). IsTurned xs c.turn.new.ends to (length es) (length es + 2)) held
    (subst (λ n. IsTurned c.as_mut_slice.result.now c.turn.new.ends to n (length es + 2)) first
    (subst (λ n. IsTurned c.as_mut_slice.result.now c.turn.new.ends to c.len-first.result n) behind c.turn.ensures.turned)) in
    let up_to : to ≤ length es = subst (λ (xs : List RangeEnd). to ≤ length xs) c.as_slice.ensures.value c.place_behind-to.ensures.within in
    let less : (k : ℕ) (d : RangeEnd) → k < to → AtMost (point_of (get_or es k d)) (at c.args.node 0) =
    subst (λ (xs : List RangeEnd). (k : ℕ) (d : RangeEnd) → k < to → AtMost (point_of (get_or xs k d)) (at c.args.node 0)) c.as_slice.ensures.value
    c.place_behind-to.ensures.less in
    let more : (k : ℕ) (d : RangeEnd) → to ≤ k → k < length es → LessThan (at c.args.node 0) (point_of (get_or es k d)) =
    subst (λ (xs : List RangeEnd). (k : ℕ) (d : RangeEnd) → to ≤ k → k < length xs → LessThan (at c.args.node 0) (point_of (get_or xs k d)))
    c.as_slice.ensures.value c.place_behind-to.ensures.more in
    subst IsSortedByPoint
    (sym (written-back c.push-2.new.self.items c.turn.new.ends c.push-2.new.self.len
    (c.turn.ensures.len ∙ ap (length {A = RangeEnd}) c.as_mut_slice.ensures.value) (omega (arith, c.push-2.new.self.ok.0))))
    (placed-earlier AtMost (es ++ a ∷ b ∷ []) c.turn.new.ends (length es) (length es + 2) (group-pushed es a b refl c.requires.sorted)
    (c.turn.ensures.len ∙ ap (length {A = RangeEnd}) held) to up_to
    (λ i l. behind-pushed es a b refl c.requires.sorted i (omega (arith, l, up_to)) (λ d. less i d l))
    (λ j p l. elim p [
      | inl q ↦ ahead-pushed es a b refl c.requires.sorted j (inl q.1) l (λ d m. more j d q.0 m)
      | inr q ↦ ahead-pushed es a b refl c.requires.sorted j (inr q) l (λ d m. more j d (omega (arith, q, up_to)) m)
    ])
    turned)
