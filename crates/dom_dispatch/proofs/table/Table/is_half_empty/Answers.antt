use Rattle.dom_dispatch.proofs.Cited.{◌≡◌, ◌+◌, length, get_or, take, ap, subst, sym, ◌∙◌, arith, if◌then◌else◌, present}
use Rattle.dom_dispatch.proofs.Taking.{counted-next}
use Rattle.dom_dispatch.proofs.table.Table.is_half_empty.Goals.{then-is_some, else-is_some}
use Rattle.dom_dispatch.proofs.table.Table.is_half_empty.Goals as goal

pub loop-entry-preserved : goal.loop-entry-preserved
loop-entry-preserved c =
    let es = c.args.self.now.entries.items in
    let i = c.loop-entry.entry-index in
    let o = c.entry-item.result in
    let same : length c.deref-entry-items.result.now ≡ length es = ap length c.deref-entry-items.ensures.value in
    let next = counted-next es i o (omega (arith, same, c.loop-entry-test.true))
    (subst (λ xs. o ≡ get_or xs i o) c.deref-entry-items.ensures.value c.entry-item.is) in
    elim c.if-is_some.branch [
      | then-is_some w ↦ record {
        counted = w.there-is ∙ ap (λ n. n + 1) c.loop-entry.invariant.counted ∙
            sym (next ∙ ap (λ b. length (present (take i es)) + (if b then 1 else 0)) (sym w.if-is_some.ensures));
        within = omega (arith, w.there-is, c.loop-entry.invariant.within);
      }
      | else-is_some w ↦ record {
        counted = w.there-is ∙ c.loop-entry.invariant.counted ∙
            sym (next ∙ ap (λ b. length (present (take i es)) + (if b then 1 else 0)) (sym w.if-is_some.ensures) ∙ omega arith);
        within = omega (arith, w.there-is, c.loop-entry.invariant.within);
      }
    ]
