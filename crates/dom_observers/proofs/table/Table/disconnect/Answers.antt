use Rattle.dom_base.proofs.Std.{ℕ, List, [], map, sym, ap, ◌∙◌, slice_get, is_some, lt-ltb}
use Rattle.dom_model.proofs.Model.{Registration, without_observer, Change}
use Rattle.dom_observers.specs.Definitions.{TablesOf, change_of, table_of}
use Rattle.dom_observers.proofs.Tables.{set-none, there_from}
use Rattle.dom_observers.proofs.table.Table.disconnect.Goals as goal
use Rattle.dom_laws.proofs.Laws.{was_none, is_some-map}

pub returns-then-is_none-clause-tables : goal.returns-then-is_none-clause-tables
returns-then-is_none-clause-tables c =
    let t : TablesOf ℕ = table_of c.args.self.now in
    let gone = was_none (slice_get t.record_queues c.args.observer)
    (ap is_some (sym c.take.ensures.records) ∙ (is_some-map (λ v. map change_of v.items) c.take.result ∙ c.if-is_none.ensures)) in
    c.take.ensures.tables ∙ ap (λ (queues : List (List (Change ℕ))). record t { record_queues = queues }) (set-none t.record_queues c.args.observer [] gone)

pub returns-clause-value : goal.returns-clause-value
returns-clause-value c =
    let t : TablesOf ℕ = table_of c.args.self.now in
    let there = there_from t.record_queues c.args.observer
    (ap is_some (sym c.take.ensures.records) ∙ (is_some-map (λ v. map change_of v.items) c.take.result ∙ c.if-is_none.ensures)) in
    sym (lt-ltb _ _ there)

pub returns-clause-tables : goal.returns-clause-tables
returns-clause-tables c =
    let a : TablesOf ℕ = table_of c.take.new.self in
    ap (λ (rs : List (Registration ℕ)). record a { registrations = rs }) c.remove.ensures
    ∙ ap (λ (t : TablesOf ℕ). record t { registrations = without_observer c.args.observer t.registrations }) c.take.ensures.tables
