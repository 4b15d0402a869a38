use Rattle.dom_base.proofs.Std.{◌≡◌, ℕ, ◌++◌, ◌∷◌, [], List, take, map, set, get_or, sym, ap, ◌∙◌, refl, arith, fold, map_push, map_more, take_all, fold_more}
use Rattle.dom_model.proofs.Model.{Change, Registration, without_transients}
use Rattle.dom_observers.specs.Definitions.{TablesOf, queue_at, change_of, notice_of, table_of, numbers_in}
use Rattle.dom_observers.proofs.Tables.{queue_at-emptied, not_before, unwrapped}
use Rattle.dom_observers.proofs.table.Table.notify.Goals as goal

-- tables by their parts
abbrev built : List (Registration ℕ) → List (List (Change ℕ)) → List ℕ → TablesOf ℕ
built rs queues pending = record { registrations = rs; record_queues = queues; pending = pending }

-- an observer with its records
abbrev noticed : List (List (Change ℕ)) → ℕ → ℕ × List (Change ℕ)
noticed queues k = (k, queue_at queues k)

-- a queue emptied
abbrev emptying : List (List (Change ℕ)) → ℕ → List (List (Change ℕ))
emptying queues k = set queues k []

pub loop-observer-init : goal.loop-observer-init
loop-observer-init c =
    record {
      registrations = refl;
      queues = refl;
      pending = ap numbers_in c.replace-pending.ensures.after;
      listed = ap (map notice_of) c.new-notices.ensures.items;
    }

pub loop-observer-preserved : goal.loop-observer-preserved
loop-observer-preserved c =
    let items = c.as_slice-observer-items.result.now in
    let i = c.loop-observer.observer-index in
    let k = get_or items i 0 in
    let t = table_of c.args.self.now in
    let l = c.loop-observer.invariant in
    let records = c.unwrap_or-records.result in
    let apart = c.as_slice-observer-items.ensures.unique in
    let had : map change_of records.items ≡ queue_at t.record_queues k =
    ap (λ v. map change_of v.items) c.unwrap_or-records.ensures
    ∙ (unwrapped c.take.result c.new.result (table_of c.loop-observer.self).record_queues k c.take.ensures.records
    c.new.ensures.items
    ∙ (ap (λ queues. queue_at queues k) l.queues
    ∙ queue_at-emptied t.record_queues (take i items) k (not_before items i apart (omega arith)))) in
    record {
      registrations = ap (λ (s : TablesOf ℕ). s.registrations) c.take.ensures.tables ∙ l.registrations;
      queues =
          ap (λ (s : TablesOf ℕ). s.record_queues) c.take.ensures.tables
          ∙ (ap (λ queues. emptying queues k) l.queues ∙ sym (fold_more emptying t.record_queues items i 0 (omega arith)));
      pending = ap (λ (s : TablesOf ℕ). s.pending) c.take.ensures.tables ∙ l.pending;
      listed =
          ap (map notice_of) c.in_ok-push.ensures.items
          ∙ (map_push notice_of c.loop-observer.notices.items (k, records)
          ∙ (ap (λ (rs : List (Change ℕ)). map notice_of c.loop-observer.notices.items ++ (k, rs) ∷ []) had
          ∙ (ap (λ ns. ns ++ noticed t.record_queues k ∷ []) l.listed
          ∙ sym (map_more (noticed t.record_queues) items i 0 (omega arith)))));
    }

pub returns-clause-notices : goal.returns-clause-notices
returns-clause-notices c =
    let items = c.as_slice-observer-items.result.now in
    let t = table_of c.args.self.now in
    let all = take_all c.loop-observer.observer-index items (omega arith) ∙
    (c.as_slice-observer-items.ensures.numbers ∙ ap numbers_in c.replace-pending.ensures.value) in
    c.loop-observer.invariant.listed ∙ ap (map (noticed t.record_queues)) all

pub returns-clause-tables : goal.returns-clause-tables
returns-clause-tables c =
    let items = c.as_slice-observer-items.result.now in
    let t = table_of c.args.self.now in
    let l = c.loop-observer.invariant in
    let same = ap numbers_in c.replace-pending.ensures.value in
    let all = take_all c.loop-observer.observer-index items (omega arith) ∙ (c.as_slice-observer-items.ensures.numbers ∙ same) in
    let rs = c.remove.ensures ∙
    (ap (without_transients (numbers_in c.replace-pending.result)) l.registrations ∙ ap (λ ks. without_transients ks t.registrations) same) in
    let queues = l.queues ∙ ap (fold emptying t.record_queues) all in
    ap (λ list. built list (table_of c.loop-observer.self).record_queues (table_of c.loop-observer.self).pending) rs
    ∙ (ap (λ list. built (without_transients t.pending t.registrations) list (table_of c.loop-observer.self).pending) queues
    ∙ ap (built (without_transients t.pending t.registrations) (fold emptying t.record_queues t.pending)) l.pending)
