use Rattle.dom_base.proofs.Std.{◌≡◌, take, map, [], set, fold}
use Rattle.dom_observers.specs.Definitions.{queue_at, notice_of, table_of}
use Rattle.dom_observers.proofs.table.Table.notify.Given as goal

abbrev pub invariant-loop-observer : goal.invariant-loop-observer
invariant-loop-observer l =
    record {
      registrations : (table_of l.self).registrations ≡ (table_of l.initial.self).registrations;
      queues : (table_of l.self).record_queues ≡ fold (λ queues k. set queues k []) (table_of l.initial.self).record_queues
          (take l.observer-index l.observer-items);
      pending : (table_of l.self).pending ≡ [];
      listed : map notice_of l.notices.items ≡ map (λ k. (k, queue_at (table_of l.initial.self).record_queues k)) (take l.observer-index l.observer-items);
    }
