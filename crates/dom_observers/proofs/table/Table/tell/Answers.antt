use Rattle.dom_base.proofs.Std.{ℕ, List, ◌∷◌, [], map, ap, ◌∙◌}
use Rattle.dom_model.proofs.Model.{Registration, without_transients}
use Rattle.dom_observers.specs.Definitions.{TablesOf, change_of, table_of}
use Rattle.dom_observers.proofs.Tables.{unwrapped}
use Rattle.dom_observers.proofs.table.Table.tell.Goals as goal

pub returns-clause-records : goal.returns-clause-records
returns-clause-records c =
    ap (λ v. map change_of v.items) c.unwrap_or-records.ensures
    ∙ unwrapped c.take.result c.new.result (table_of c.args.self.now).record_queues c.args.observer c.take.ensures.records c.new.ensures.items

pub returns-clause-tables : goal.returns-clause-tables
returns-clause-tables c =
    let a : TablesOf ℕ = table_of c.take.new.self in
    ap (λ (rs : List (Registration ℕ)). record a { registrations = rs }) c.remove.ensures
    ∙ ap (λ (t : TablesOf ℕ). record t { registrations = without_transients (c.args.observer ∷ []) t.registrations }) c.take.ensures.tables
