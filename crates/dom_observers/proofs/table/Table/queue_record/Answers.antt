use Rattle.dom_base.proofs.Std.{◌≡◌, ℕ, List, fold, ap, ◌∙◌, subst, OnOk}
use Rattle.dom_model.proofs.Model.{Registration, target_of}
use Rattle.dom_observers.specs.Definitions.{record_of, path_keys, TablesOf, given, table_of, change_of, numbers_in}
use Rattle.dom_observers.proofs.Tables.{told-fold}
use Rattle.dom_observers.proofs.table.Table.queue_record.Goals as goal

pub returns-clause-tables : goal.returns-clause-tables
returns-clause-tables c =
    let ch = change_of c.args.change in
    let path = path_keys c.args.forest.now (target_of ch) in
    let t : TablesOf ℕ = table_of c.args.self.now in
    let found = c.in_ok-interested in
    let give = λ (s : TablesOf ℕ) (k : ℕ). given (record_of found.interested ch k) s k in
    subst (λ (s : TablesOf ℕ). OnOk c.give_to.result (table_of c.give_to.new.self ≡ s))
    (ap (λ (rs : List (Registration ℕ)). fold give (record t { registrations = rs }) (numbers_in found.interested.observers)) found.ensures.keeps
    ∙ (ap (fold give t) found.ensures.observers ∙ told-fold path ch t (record_of found.interested ch) found.ensures.with_old))
    c.give_to.ensures.tables
