-- What contracts see of an owner's table.
use Rattle.std.specs.Prelude.{ℕ, map}
use Rattle.dom_observers.specs.declared.table.Table.{Table}
use Rattle.dom_observers.specs.Numbers.{numbers_in}
use Rattle.dom_observers.specs.Tables.{TablesOf}
use Rattle.dom_observers.specs.Views.{change_of}

-- what an owner has of observers (DOM Standard, 4.3 Mutation observers)
abbrev pub table_of : Table → TablesOf ℕ
table_of t =
    record {
      registrations = t.registrations;
      record_queues = map (λ queue. map change_of queue.items) t.queues.items;
      pending = numbers_in t.pending;
    }
