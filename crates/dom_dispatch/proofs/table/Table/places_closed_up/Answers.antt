use Rattle.dom_dispatch.proofs.Cited.{◌≡◌, ◌&&◌, ◌+◌, ◌∷◌, ◌++◌, [], ℕ, List, nat_eq, Some, filter, length, get_or, take, ap, subst, sym, ◌∙◌, arith, rules}
use Rattle.dom_dispatch.proofs.Cited.{append-nil}
use Rattle.dom_dispatch.proofs.Cited.{is_some, if◌then◌else◌, length_push, text_eq, listener_of, is_of_type, places_at, MayPut, IsIndexed}
use Rattle.dom_dispatch.proofs.Taking.{closed-next, indexed-more, put-same}
use Rattle.dom_dispatch.proofs.table.Table.places_closed_up.Goals.{in-Some+in_ok-push, in_default}
use Rattle.dom_dispatch.proofs.table.Table.places_closed_up.Goals as goal

pub loop-entry-preserved : goal.loop-entry-preserved
loop-entry-preserved c =
    let es = c.args.self.now.entries.items in
    let i = c.loop-entry.entry-index in
    let o = c.entry-item.result in
    let inv = c.loop-entry.invariant in
    let done = filter is_some (take i es) in
    let same : length c.deref-entry-items.result.now ≡ length es = ap length c.deref-entry-items.ensures.value in
    let next = closed-next es i o (omega (arith, same, c.loop-entry-test.true))
    (subst (λ xs. o ≡ get_or xs i o) c.deref-entry-items.ensures.value c.entry-item.is) in
    elim c.match-entry.branch [
      | in-Some+in_ok-push w ↦
          let e = w.in-Some.entry in
          let kept = c.loop-entry.places in
          let new = w.push.new.self in
          let more : filter is_some (take (i + 1) es) ≡ done ++ Some e ∷ [] = next ∙ ap (λ x. done ++ (if is_some x then x ∷ [] else [])) w.in-Some.is in
          let named : w.as_str.result.now ≡ (listener_of e).words.event = search rules in
          let put : (k : ℕ) (t : List ℕ) → MayPut (is_of_type k t (listener_of e)) (length done) (places_at kept k t) (places_at new k t) =
          λ k t. put-same (ap (λ text. nat_eq e.node k && text_eq text t) named) inv.counted (w.in_ok-push.ensures.ok k t) in
          record {
            counted = w.count-is ∙ ap (λ n. n + 1) inv.counted ∙ sym (ap length more ∙ length_push done (Some e));
            within = omega (arith, w.count-is, inv.within);
            indexed = subst (λ p. IsIndexed p (filter is_some (take (i + 1) es))) (sym w.places-is)
                (subst (IsIndexed new) (sym more) (indexed-more done e kept new inv.indexed put));
          }
      | in_default w ↦
          let fewer : filter is_some (take (i + 1) es) ≡ done = next ∙ ap (λ x. done ++ (if is_some x then x ∷ [] else [])) w.in_default.is ∙ append-nil done in
          record {
            counted = w.count-is ∙ inv.counted ∙ sym (ap length fewer);
            within = omega (arith, w.count-is, inv.within);
            indexed = subst (λ p. IsIndexed p (filter is_some (take (i + 1) es))) (sym w.places-is)
                (subst (IsIndexed c.loop-entry.places) (sym fewer) inv.indexed);
          }
    ]
