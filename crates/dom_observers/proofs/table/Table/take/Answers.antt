use Rattle.dom_base.proofs.Std.{ℕ, List, map, set, ap, ◌∙◌, map-set}
use Rattle.dom_model.proofs.Model.{Change}
use Rattle.dom_observers.specs.Definitions.{TablesOf, change_of, table_of}
use Rattle.dom_observers.proofs.table.Table.take.Goals as goal

pub returns-clause-tables : goal.returns-clause-tables
returns-clause-tables c =
    let t : TablesOf ℕ = table_of c.args.self.now in
    ap (λ (queues : List (List (Change ℕ))). record t { record_queues = queues })
    (map-set (λ queue. map change_of queue.items) c.args.self.now.queues.items c.args.observer c.replace.new.dest
    ∙ ap (λ queue. set t.record_queues c.args.observer (map change_of queue)) (ap (λ queue. queue.items) c.replace.ensures.after ∙ c.new.ensures.items))
