use Rattle.dom_ranges.proofs.Cited.{◌≡◌, ◌+◌, ◌<◌, ◌≤◌, ◌/◌, ◌-◌, get_or, sym, ap, ◌∙◌, arith, rules, get_or_default, RangeEnd}
use Rattle.dom_ranges.proofs.ends.place_in.Goals.{then-lt, else-lt+then-eq, else-lt+else-eq}
use Rattle.dom_ranges.proofs.ends.place_in.Goals as goal

pub loop-low-preserved-then-end-offset : goal.loop-low-preserved-then-end-offset
loop-low-preserved-then-end-offset c =
    let es = c.args.ends.now in
    let part = c.args.part in
    let middle = c.loop-low.low + (c.loop-low.high - c.loop-low.low) / 2 in
    let below : middle < c.loop-low.high = omega arith in
    let less : c.args.node ≤ c.index-ends-middle.result.node = elim c.if-lt.branch [
      | then-lt w ↦ search rules
      | else-lt+then-eq w ↦ search rules
      | else-lt+else-eq w ↦ search rules
    ] in
    let read : (d : RangeEnd) → get_or es middle d ≡ c.index-ends-middle.result =
    λ d. get_or_default es middle d c.index-ends-middle.result (omega arith) ∙ sym c.index-ends-middle.is in
    record {
      first = omega arith;
      order = omega arith;
      behind = omega arith;
      less = λ k d from to. omega (arith, less, ap (λ (x : RangeEnd). x.node) (read d), c.requires.sorted k middle d from (omega arith) (omega arith));
      more = c.loop-low.invariant.more;
    }

pub loop-low-preserved : goal.loop-low-preserved
loop-low-preserved c =
    let es = c.args.ends.now in
    let middle = c.loop-low.low + (c.loop-low.high - c.loop-low.low) / 2 in
    let below : middle < c.loop-low.high = omega arith in
    let more : c.index-ends-middle.result.node ≤ c.args.node = elim c.if-lt.branch [
      | then-lt w ↦ search rules
      | else-lt+then-eq w ↦ search rules
      | else-lt+else-eq w ↦ search rules
    ] in
    let read : (d : RangeEnd) → get_or es middle d ≡ c.index-ends-middle.result =
    λ d. get_or_default es middle d c.index-ends-middle.result (omega arith) ∙ sym c.index-ends-middle.is in
    record {
      first = omega arith;
      order = omega arith;
      behind = omega arith;
      less = c.loop-low.invariant.less;
      more = λ k d from to. omega (arith, more, ap (λ (x : RangeEnd). x.node) (read d), c.requires.sorted middle k d (omega arith) from to);
    }
