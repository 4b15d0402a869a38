use Rattle.dom_ranges.proofs.Cited.{◌≡◌, ◌≢◌, ℕ, ◌+◌, ◌<◌, ◌≤◌, List, length, get_or, sym, ap, ◌∙◌, subst, arith, rules, SwappedAt, IsPermutation}
use Rattle.dom_ranges.proofs.Cited.{get_or_default, IsPermutation-trans, AreAt, IsSortedBeside, RangeEnd}
use Rattle.dom_ranges.proofs.Gathering.{AreAt-more, IsSortedBeside-more, AreAt-grown, others-more}
use Rattle.dom_ranges.proofs.ends.gather.Goals.{then-ne, else-ne}
use Rattle.dom_ranges.proofs.ends.gather.Goals as goal

pub loop-i-preserved : goal.loop-i-preserved
loop-i-preserved c =
    let es = c.loop-i.ends in
    let within : c.loop-i.i < length es = omega (arith, c.loop-i.invariant.same_length, c.requires.within) in
    let read : (d : RangeEnd) → get_or es c.loop-i.i d ≡ c.index-ends-i.result =
    λ d. get_or_default es c.loop-i.i d c.index-ends-i.result within ∙ sym c.index-ends-i.is in
    elim c.if-ne.branch [
      | then-ne w ↦
          let apart : c.index-ends-i.result.node ≢ c.args.node = search rules in
          let other : (d : RangeEnd) → (get_or es c.loop-i.i d).node ≢ c.args.node = λ d e. apart (sym (ap (λ (x : RangeEnd). x.node) (read d)) ∙ e) in
          let swapped = subst (λ (t : List RangeEnd). SwappedAt es t c.loop-i.kept c.loop-i.i) (sym w.ends-is) w.swap.ensures.by_index in
          let same : length c.if-ne.ends ≡ length es = ap (length {A = RangeEnd}) w.ends-is ∙ w.swap.ensures.len in
          record {
            above = omega (arith, w.kept-is, c.loop-i.invariant.above);
            behind = omega (arith, w.kept-is, c.loop-i.invariant.behind);
            same_length = same ∙ c.loop-i.invariant.same_length;
            permutation = IsPermutation-trans _ _ _ c.loop-i.invariant.permutation (subst (IsPermutation es) (sym w.ends-is) w.swap.ensures.permutation);
            sorted = IsSortedBeside-more es c.if-ne.ends c.args.low c.args.node c.loop-i.kept c.loop-i.i c.loop-i.invariant.behind swapped other
                c.args.high c.loop-i.invariant.above c.loop-i-test.true (omega (arith, c.loop-i.invariant.same_length, c.requires.within)) same
                c.loop-i.invariant.sorted c.loop-i.invariant.gathered;
            others = subst (λ t. (k : ℕ) (d : RangeEnd) → c.args.low ≤ k → k < t → (get_or c.if-ne.ends k d).node ≢ c.args.node) (sym w.kept-is)
                (others-more es c.if-ne.ends c.args.low c.args.node c.loop-i.kept c.loop-i.i c.loop-i.invariant.behind swapped other
                c.loop-i.invariant.others);
            gathered = subst (λ t. AreAt c.if-ne.ends t (c.loop-i.i + 1) c.args.node) (sym w.kept-is)
                (AreAt-more es c.if-ne.ends c.args.low c.args.node c.loop-i.kept c.loop-i.i c.loop-i.invariant.behind swapped other
                c.args.high c.loop-i.invariant.above c.loop-i-test.true (omega (arith, c.loop-i.invariant.same_length, c.requires.within)) same
                c.loop-i.invariant.sorted c.loop-i.invariant.gathered);
          }
      | else-ne w ↦
          let at_node : c.index-ends-i.result.node ≡ c.args.node = search rules in
          let here : (d : RangeEnd) → (get_or es c.loop-i.i d).node ≡ c.args.node = λ d. ap (λ (x : RangeEnd). x.node) (read d) ∙ at_node in
          record {
            above = omega (arith, w.kept-is, c.loop-i.invariant.above);
            behind = omega (arith, w.kept-is, c.loop-i.invariant.behind);
            same_length = ap (length {A = RangeEnd}) w.ends-is ∙ c.loop-i.invariant.same_length;
            permutation = subst (IsPermutation c.args.ends.now) (sym w.ends-is) c.loop-i.invariant.permutation;
            sorted = subst (λ (t : List RangeEnd). IsSortedBeside t c.args.low c.args.high c.args.node) (sym w.ends-is) c.loop-i.invariant.sorted;
            others = subst (λ (t : List RangeEnd). (k : ℕ) (d : RangeEnd) → c.args.low ≤ k → k < c.if-ne.kept → (get_or t k d).node ≢ c.args.node)
                (sym w.ends-is) (subst (λ n. (k : ℕ) (d : RangeEnd) → c.args.low ≤ k → k < n → (get_or es k d).node ≢ c.args.node) (sym w.kept-is)
                c.loop-i.invariant.others);
            gathered = subst (λ (t : List RangeEnd). AreAt t c.if-ne.kept (c.loop-i.i + 1) c.args.node) (sym w.ends-is)
                (subst (λ n. AreAt es n (c.loop-i.i + 1) c.args.node) (sym w.kept-is)
                (AreAt-grown es c.loop-i.kept c.loop-i.i c.args.node here c.loop-i.invariant.gathered));
          }
    ]
