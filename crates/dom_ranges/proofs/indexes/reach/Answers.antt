use Rattle.dom_ranges.proofs.Cited.{◌≡◌, ◌≢◌, ℕ, ◌-◌, ◌<◌, inl, inr, length, slice_index_or, sym, ap, ◌∙◌, arith, rules, cases_lt, get_or_default, at, point_of}
use Rattle.dom_ranges.proofs.Cited.{RangeEnd}
use Rattle.dom_ranges.proofs.indexes.reach.Goals.{else-behind-gt0-via-then-behind-gt0+else-eq, else-behind-gt0-via-else-behind-gt0}
use Rattle.dom_ranges.proofs.indexes.reach.Goals as goal

pub returns-then-eq-clause-up_to : goal.returns-then-eq-clause-up_to
returns-then-eq-clause-up_to c =
    λ k d l e.
    let es = c.args.ends.now in
    let last = c.behind_node-behind.result - 1 in
    let within : last < length es = omega (arith, c.if-behind-gt0.true, c.behind_node-behind.ensures.within) in
    elim (cases_lt k c.behind_node-behind.result) [
      | inl m ↦
          let s = c.requires k last d (omega (arith, m)) within in
          let up = c.behind_node-behind.ensures.less last d (omega (arith, m)) in
          omega (
            arith,
            s.1 (omega (arith, s.0, up, e)),
            ap (λ (x : RangeEnd). x.offset) (get_or_default es last d c.index-ends-behind-then-eq.result within),
          )
      | inr m ↦ absurd (omega (arith, e, c.behind_node-behind.ensures.more k d m l))
    ]

pub returns-clause-up_to : goal.returns-clause-up_to
returns-clause-up_to c =
    λ k d l e.
    let es = c.args.ends.now in
    elim c.else-behind-gt0.branch [
      | else-behind-gt0-via-then-behind-gt0+else-eq w ↦
          let last = c.behind_node-behind.result - 1 in
          let within : last < length es = omega (arith, w.if-behind-gt0.true, c.behind_node-behind.ensures.within) in
          let apart : w.index-ends-behind.result.node ≢ c.args.node = search rules in
          elim (cases_lt k c.behind_node-behind.result) [
            | inl m ↦
                let s = c.requires k last d (omega (arith, m)) within in
                let up = c.behind_node-behind.ensures.less last d (omega (arith, m)) in
                absurd (apart (ap (λ (x : RangeEnd). x.node) (w.index-ends-behind.is ∙ get_or_default es last w.index-ends-behind.result d within) ∙
                omega (arith, s.0, up, e)))
            | inr m ↦ absurd (omega (arith, e, c.behind_node-behind.ensures.more k d m l))
          ]
      | else-behind-gt0-via-else-behind-gt0 w ↦
          absurd (omega (arith, e, c.behind_node-behind.ensures.more k d (omega (arith, w.if-behind-gt0.false)) l))
    ]

pub returns-then-eq-clause-reached : goal.returns-then-eq-clause-reached
returns-then-eq-clause-reached c =
    let es = c.args.ends.now in
    let last = c.behind_node-behind.result - 1 in
    let within : last < length es = omega (arith, c.if-behind-gt0.true, c.behind_node-behind.ensures.within) in
    let read = c.index-ends-behind-then-eq.result in
    let same : c.index-ends-behind.result.node ≡ c.args.node = search rules in
    let here = c.index-ends-behind.is ∙ get_or_default es last c.index-ends-behind.result read within in
    inr (
      last,
      within,
      λ d.
          ap point_of (get_or_default es last d read within)
          ∙ ap (λ (n : ℕ). at n (slice_index_or es last read).offset) (sym (ap (λ (x : RangeEnd). x.node) here) ∙ same),
    )
