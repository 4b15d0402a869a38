use Rattle.dom_base.proofs.Std.{◌≡◌, ℕ, ◌≤◌, ◌++◌, ◌∷◌, [], inl, inr, List, length, map, set, refl, sym, ap, ◌∙◌, arith, unwrap_or, option_map, slice_get-map}
use Rattle.dom_base.proofs.Std.{slice_get_read, cases_lt, false≢true, set_past, map-set, map_push, length-map, on_ok_weaker}
use Rattle.dom_model.proofs.Model.{Change}
use Rattle.dom_observers.specs.Definitions.{TablesOf, queue_at, change_of, table_of}
use Rattle.dom_observers.proofs.table.Table.append.Goals as goal

pub returns-in-Some : goal.returns-in-Some
returns-in-Some c =
    let t : TablesOf ℕ = table_of c.args.self.now in
    let queues = c.args.self.now.queues.items in
    let there : queue_at t.record_queues c.args.observer ≡ map change_of c.in-Some.queue.now.items =
    ap (λ o. unwrap_or o []) (slice_get-map (λ queue. map change_of queue.items) queues c.args.observer ∙
    ap (option_map (λ queue. map change_of queue.items))
    (slice_get_read queues c.args.self.now.queues.len c.args.observer c.in-Some.queue.now c.args.self.now.queues.ok.0
    (c.in-Some.ensures.variant.0 refl) c.in-Some.ensures.value)) in
    on_ok_weaker c.push_record.result
    (λ (items : c.push_record.new.queue.items ≡ c.in-Some.queue.now.items ++ c.args.entry ∷ []).
    ap (λ (list : List (List (Change ℕ))). record t { record_queues = list })
    (map-set (λ queue. map change_of queue.items) queues c.args.observer c.push_record.new.queue
    ∙ ap (set t.record_queues c.args.observer) (ap (map change_of) items ∙ (map_push change_of c.in-Some.queue.now.items c.args.entry
    ∙ ap (λ records. records ++ change_of c.args.entry ∷ []) (sym there))))) c.push_record.ensures

pub returns-in-None : goal.returns-in-None
returns-in-None c =
    let t : TablesOf ℕ = table_of c.args.self.now in
    let past : length c.args.self.now.queues.items ≤ c.args.observer =
    elim (cases_lt c.args.observer (length c.args.self.now.queues.items))
    [ inl short ↦ absurd (false≢true (c.in-None.ensures.variant.1 (omega (arith, short)))) | inr long ↦ long ] in
    sym (ap (λ (queues : List (List (Change ℕ))). record t { record_queues = queues })
    (set_past t.record_queues c.args.observer (queue_at t.record_queues c.args.observer ++ change_of c.args.entry ∷ [])
    (let same = length-map c.args.self.now.queues.items (λ queue. map change_of queue.items) in omega (arith, same, past))))
