use Rattle.dom_ranges.proofs.Cited.{◌≡◌, ◌⊎◌, inr, ℕ, ◌+◌, ◌<◌, ◌≤◌, List, length, get_or, set, sym, ap, subst, ◌∙◌, arith, rules, get_or_default}
use Rattle.dom_ranges.proofs.Cited.{get_or-set_other, get_or-set_same, Slab, at, end_in, is_chosen, IsListed, IsMovedPart, Points, RangeEnd, Span}
use Rattle.dom_ranges.proofs.Listing.{IsPut}
use Rattle.dom_ranges.proofs.Parts.{up_to, here-still, IsMovedPart-skipped, IsMovedPart-more, IsListed-set, nodes-more, nodes-same}
use Rattle.dom_ranges.proofs.moving.move_part.Goals.{then-not-has+then-ne, then-not-has+else-ne, else-not-has}
use Rattle.dom_ranges.proofs.moving.move_part.Goals as goal

pub loop-i-preserved : goal.loop-i-preserved
loop-i-preserved g c =
    let rule = g.C.Change.rule c.args.change.now in
    let target = g.C.Change.target c.args.change.now in
    let es = c.args.ends.now in
    let now = c.loop-i.ends in
    let i = c.loop-i.i in
    let so_far = c.loop-i.invariant.moved in
    let within : i < length es = omega (arith, c.loop-i-test.true, c.requires.within) in
    let inside : i < length now = omega (arith, within, so_far.same_length) in
    elim c.if-not-has.branch [
      | then-not-has+then-ne w ↦
          let one = get_or now i w.index-ends-i.result in
          let b = at w.moved-node.result.0 w.moved-node.result.1 in
          let next = set now i (end_in one.slot one.is_end b) in
          let put : IsPut c.loop-i.live w.put_point.new.live one.slot one.is_end b =
          record { put = w.put_point.ensures.put; others = w.put_point.ensures.others } in
          let is_now : (d : RangeEnd) → get_or now i d ≡ one = λ d. sym (get_or_default now i w.index-ends-i.result d inside) in
          let is_one : (d : RangeEnd) → get_or es i d ≡ one =
          λ d. sym (here-still rule target es now c.args.part.first i c.args.skipped within c.loop-i.auto.i so_far d) ∙ is_now d in
          record {
            moved = subst (λ (t : List RangeEnd). IsMovedPart rule target es t (is_chosen (up_to c.args.part.first (i + 1)) c.args.skipped)) (sym w.ends-is)
                (IsMovedPart-more rule target es now c.args.part.first i c.args.skipped within c.loop-i.auto.i so_far one b
                (sym c.has.ensures ∙ w.if-not-has.true) is_one w.moved-node.ensures.moved w.moved-node.ensures.goes);
            listed = subst (λ (t : Slab Points). IsListed t c.if-not-has.ends) (sym w.live-is)
                (subst (IsListed w.put_point.new.live) (sym w.ends-is)
                (IsListed-set i c.loop-i.invariant.listed inside is_now put));
            start = inr (omega (arith, c.loop-i-test.true));
            up = omega (arith, ap (λ (t : Span). t.behind) w.changed-is);
            within = omega (arith, ap (λ (t : Span). t.behind) w.changed-is, within);
            nodes = subst (λ (t : Span). (k : ℕ) (d : RangeEnd) → (k < t.first) ⊎ (t.behind ≤ k) →
                (get_or c.if-not-has.ends k d).node ≡ (get_or es k d).node) (sym w.changed-is)
                (subst (λ (t : List RangeEnd). (k : ℕ) (d : RangeEnd) → (k < w.min.result) ⊎ (i + 1 ≤ k) → (get_or t k d).node ≡ (get_or es k d).node)
                (sym w.ends-is)
                (nodes-more es now next i c.loop-i.changed.first c.loop-i.changed.behind
                (λ k d off. get_or-set_other now i k (end_in one.slot one.is_end b) d off) c.loop-i.invariant.nodes
                w.min.result w.min.ensures c.loop-i.invariant.up));
          }
      | then-not-has+else-ne w ↦
          let one = get_or now i w.index-ends-i.result in
          let b = at w.moved-node.result.0 w.moved-node.result.1 in
          let next = set now i (end_in one.slot one.is_end b) in
          let put : IsPut c.loop-i.live w.put_point.new.live one.slot one.is_end b =
          record { put = w.put_point.ensures.put; others = w.put_point.ensures.others } in
          let is_now : (d : RangeEnd) → get_or now i d ≡ one = λ d. sym (get_or_default now i w.index-ends-i.result d inside) in
          let is_one : (d : RangeEnd) → get_or es i d ≡ one =
          λ d. sym (here-still rule target es now c.args.part.first i c.args.skipped within c.loop-i.auto.i so_far d) ∙ is_now d in
          let stays : b.node ≡ one.node = search rules in
          record {
            moved = subst (λ (t : List RangeEnd). IsMovedPart rule target es t (is_chosen (up_to c.args.part.first (i + 1)) c.args.skipped)) (sym w.ends-is)
                (IsMovedPart-more rule target es now c.args.part.first i c.args.skipped within c.loop-i.auto.i so_far one b
                (sym c.has.ensures ∙ w.if-not-has.true) is_one w.moved-node.ensures.moved w.moved-node.ensures.goes);
            listed = subst (λ (t : Slab Points). IsListed t c.if-not-has.ends) (sym w.live-is)
                (subst (IsListed w.put_point.new.live) (sym w.ends-is)
                (IsListed-set i c.loop-i.invariant.listed inside is_now put));
            start = inr (omega (arith, c.loop-i-test.true));
            up = omega (arith, ap (λ (t : Span). t.behind) w.changed-is, c.loop-i.invariant.up);
            within = omega (arith, ap (λ (t : Span). t.behind) w.changed-is, c.loop-i.invariant.within);
            nodes = subst (λ (t : Span). (k : ℕ) (d : RangeEnd) → (k < t.first) ⊎ (t.behind ≤ k) →
                (get_or c.if-not-has.ends k d).node ≡ (get_or es k d).node) (sym w.changed-is)
                (subst (λ (t : List RangeEnd). (k : ℕ) (d : RangeEnd) → (k < c.loop-i.changed.first) ⊎ (c.loop-i.changed.behind ≤ k) →
                (get_or t k d).node ≡ (get_or es k d).node) (sym w.ends-is)
                (nodes-same es now next i c.loop-i.changed.first c.loop-i.changed.behind
                (λ k d off. get_or-set_other now i k (end_in one.slot one.is_end b) d off) c.loop-i.invariant.nodes
                (λ d. ap (λ (x : RangeEnd). x.node) (get_or-set_same now i (end_in one.slot one.is_end b) d inside) ∙
                (stays ∙ sym (ap (λ (x : RangeEnd). x.node) (is_now d))))));
          }
      | else-not-has w ↦
          record {
            moved = subst (λ (t : List RangeEnd). IsMovedPart rule target es t (is_chosen (up_to c.args.part.first (i + 1)) c.args.skipped)) (sym w.ends-is)
                (IsMovedPart-skipped rule target es now c.args.part.first i c.args.skipped within c.loop-i.auto.i so_far
                (sym c.has.ensures ∙ w.if-not-has.false));
            listed = subst (λ (t : Slab Points). IsListed t c.if-not-has.ends) (sym w.live-is)
                (subst (IsListed c.loop-i.live) (sym w.ends-is) c.loop-i.invariant.listed);
            start = inr (omega (arith, c.loop-i-test.true));
            up = omega (arith, ap (λ (t : Span). t.behind) w.changed-is, c.loop-i.invariant.up);
            within = omega (arith, ap (λ (t : Span). t.behind) w.changed-is, c.loop-i.invariant.within);
            nodes = subst (λ (t : Span). (k : ℕ) (d : RangeEnd) → (k < t.first) ⊎ (t.behind ≤ k) →
                (get_or c.if-not-has.ends k d).node ≡ (get_or es k d).node) (sym w.changed-is)
                (subst (λ (t : List RangeEnd). (k : ℕ) (d : RangeEnd) → (k < c.loop-i.changed.first) ⊎ (c.loop-i.changed.behind ≤ k) →
                (get_or t k d).node ≡ (get_or es k d).node) (sym w.ends-is) c.loop-i.invariant.nodes);
          }
    ]
